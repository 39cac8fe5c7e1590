-- The elements come back to the table that lent them. Assumes nothing.
use Rattle.plate_c.proofs.Steps.{ !, Array, Array-whole, Fml, List, Logic, Ptr, RattleType, Ura, Val, [], block_ptr, cell_at, cells, done, ent, feq_i, fjoin, flt_i, fpack, fsep, fsplit, full_share, length, lies_at, mem, move, part_at, qed, refl, rewrite, row, sem, sep, sym, type_size, use1, whole_out, ‵, ℕ, ◌$◌, ◌*◌, ◌<◌, ◌^◌, ◌∵◌, ◌∷◌, ◌≡◌}
use Rattle.plate_c.specs.Lent.{lent}
use denote.Memory.{part_of}

-- a struct that owns its fields and what is lent at a pointer is whole once its own cell and the elements, these now, are
-- back
pub returned : {M : Type 1} {𝓤 : Ura M} (𝓛 : Logic 𝓤) (E S : RattleType) (fields : Fml) (h : S.Denot)
    (us : List Val) (p : Ptr) (n rb ro b o : ℕ) (ws : List E.Denot)
    → S.own_val h us ≡ fsep fields (lent E p n ws)
    → p ≡ block_ptr b o → n * type_size E < 2 ^ 63 → length ws ≡ n
    → ent 𝓤
    (sep 𝓤 (sem 𝓛 (cells (mem E) ws b o)) (sem 𝓛 (fsep fields (cell_at full_share S.mir us rb ro))))
    (sem 𝓛 ((mem S).own_at h rb ro))
unfolding part_of
returned 𝓛 E S fields h us p n rb ro b o ws owns e small long =
    qed 𝓛 (‵ (cells (mem E) ws b o) ∷ ‵ (fsep fields (cell_at full_share S.mir us rb ro)) ∷ []) ∵
    use1 𝓛 (‵ (row E full_share ws b o)) (whole_out 𝓛 E ws b o) $ feq_i ! ℕ (length ws) n long $ fjoin ! $
    use1 𝓛 (‵ (part_at (Array E n) full_share ws b o)) (Array-whole 𝓛 E full_share n ws b o) $
    rewrite ! 0 (λ (p : Ptr). ‵ (lies_at (Array E n) full_share p ws)) (sym e) refl $
    flt_i ! (n * type_size E) (2 ^ 63) small $ fjoin ! $ move ! (1 ∷ []) $ fsplit ! $
    -- [the fields; the struct's cell; the elements]
    move ! (0 ∷ 2 ∷ []) $ fjoin ! $ rewrite ! 0 (λ (f : Fml). ‵ f) (sym owns) refl $ move ! (1 ∷ 0 ∷ []) $ fjoin ! $
    fpack ! (List Val) (λ vs. fsep (cell_at full_share S.mir vs rb ro) (S.own_val h vs)) us $ done !
