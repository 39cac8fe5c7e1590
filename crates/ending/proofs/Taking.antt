-- A list cut twice at the same place.
use Rattle.std.proofs.Common.{◌≡◌, ◌∙◌, ap, subst, ℕ, List, [], ◌++◌, take, Option, Some, None, IfSome, option_map, arith}
use Rattle.std.proofs.lemmas.List.{take-take}

-- what is cut off once more is the known list's beginning still
cut_twice : (n : ℕ) (known : Option (List ℕ)) (held cut : List ℕ) → cut ≡ take n held
    → IfSome (option_map (take n) known) (λ xs. held ≡ xs) → IfSome known (λ xs. cut ≡ take n xs)
cut_twice n None held cut cuts holds = tt
cut_twice n (Some xs) held cut cuts holds = cuts ∙ ap (take n) holds ∙ take-take n n xs (omega arith)

-- the same of what was read behind nothing, under a limit
pub read_and_cut : (n limit : ℕ) (known inner : Option (List ℕ)) (start held cut : List ℕ)
    → limit ≡ n → inner ≡ known → start ≡ [] → cut ≡ take n held
    → IfSome (option_map (take limit) inner) (λ xs. held ≡ start ++ xs) → IfSome known (λ xs. cut ≡ take n xs)
read_and_cut n limit known inner start held cut limited whole empty cuts reads =
    let behind_nothing = subst (λ s. IfSome (option_map (take limit) inner) (λ xs. held ≡ s ++ xs)) empty reads in
    let of_known = subst (λ k. IfSome (option_map (take limit) k) (λ xs. held ≡ xs)) whole behind_nothing in
    cut_twice n known held cut cuts (subst (λ m. IfSome (option_map (take m) known) (λ xs. held ≡ xs)) limited of_known)
