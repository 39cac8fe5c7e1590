-- `slice` lends the cells that C lent, and the table follows them: a walk of its MIR by hand. Assumes nothing.
use Rattle.plate_c.proofs.Steps.{ !, Array, Array-apart, Elements, Fml, GName, Goes-spent_ref, List, MutBor, MutRef, MutSlice, Ptr, RattleType, Stays, Struct, Val, [], after, agg, alloc_all, and_then, ap, arith, at_ret, await, blocks, cell_at, cells, done, ends_at, enter, env, exec, feq, feq_l, first, fjoin, fld, flft, flt_l, follows, frame, free_all, fsep, fsplit, fsplit3, ftrue, full_share, get, group, id⊢, in_a_block, join, keep, later, lends_Elements, length, lies_at, load, look_at, look_in, mem, move, mut_Tells, mut_ref_to, mut_vals, named, no, no_more, nothing, of_opd, opens, pass_all, peeks, pick, plain, proved, qed, raw, refl, returns, rewrite, row, says_two, sem, sets, sets_last, shape, shows, slice_val, some, split, split3, stay_dropped, stop, sub, subst, suffices, sym, tables, through, type_size, use1, walk_of, whole, whole_in, ‵, ℕ, ◌$◌, ◌*◌, ◌<◌, ◌^◌, ◌∙◌, ◌∵◌, ◌∷◌, ◌≡◌, ◌⊛◌}
use Rattle.board.specs.contracts.cell.Cell.{the_row as cell_row}
use Rattle.board.specs.declared.cell.Cell.{Cell}
use Rattle.plate_c.specs.Loans.{with_cells}
use Rattle.plate_c.specs.contracts.lent.LentCells.{the_row as S, the_type}
use Rattle.plate_c.specs.contracts.lent.LentCells.slice as f
use Rattle.plate_c.specs.declared.lent.LentCells.{LentCells}
use Rattle.plate_c.proofs.Returned.{returned}
use Rattle.plate_c.proofs.lent.LentCells.TheLaws.{lowers}
use Rattle.plate_c.proofs.lent.LentCells.slice.Code as code
use Rattle.plate_c.proofs.lent.LentCells.slice.Statement.{statement}

-- the row of an element
abbrev E : RattleType
E = cell_row

-- nothing is left of the reference at the return: it went into the slice
abbrev stayed : Stays f.ended.signature.params f.ended.kept
stayed = (stay_dropped (mut_ref_to (0 ∷ []) tt (plain (λ _. S))) no, tt)

-- all but the elements
abbrev Rest : LentCells → List Val → ℕ → ℕ → Fml
Rest h us rb ro = fsep ((Struct (shape the_type)).own_val (h.at, (h.len, tt)) us) (cell_at full_share S.mir us rb ro)

pub slice_spec : {M : Type 1} → statement M
slice_spec 𝓤 𝓛 𝓜 𝓡 wired =
    let c = f.clauses 𝓛 𝓜.mem 𝓡.returns in let W = walk_of 𝓛 f.ended stayed c in let 𝓣 = tables 𝓤 𝓛.H 𝓜 𝓡 𝓡.env in
    proved 𝓛 f.ended stayed c 𝓜 𝓡 (Goes-spent_ref 𝓛 1 (0 ∷ []) tt (plain (λ _. S)), tt)
    f.Key.name code.function (code.unfolded 𝓤 𝓛.H 𝓜 𝓡 wired)
    (λ κs. (mut_vals, tt)) (λ κs. (mut_Tells (named 0) κs.0 S, tt)) (λ κs qs bounds a _ are.
    let κ = κs.0 in let q = qs.0 in let γ = a.0.ghost_name in
    let rb = a.0.ref_ptr.0 in let ro = a.0.ref_ptr.1 in let h = a.0.now in let xs = h.cells in let vs = mut_vals a.0 in
    let y : W.Ghost = ((κs, qs, bounds, a, (vs, tt)), tt) in
    qed 𝓛 (((‵ (flft κ q) ⊛ ‵ ftrue) ⊛ ‵ ((MutRef (named 0) κ S).own_val a.0 vs) ⊛ ‵ ftrue) ∷ ‵ ftrue ∷ []) ∵
    split ! $ split ! $ move ! (2 ∷ []) $ split ! $ keep ! (0 ∷ 2 ∷ []) $
    enter ! _ _ _ _ _ $ alloc_all ! (λ l. pass_all ! refl ((tt, tt), tt) $
    fsplit3 ! $ move ! (1 ∷ 2 ∷ 3 ∷ []) $ opens ! tt S rb ro (λ us.
    move ! (1 ∷ []) $ peeks ! S _ (shows 𝓛 S) h us (λ is. fsplit ! $ move ! (1 ∷ []) $ fsplit ! $ flt_l ! (λ small.
    in_a_block ! h.at (λ p. lies_at (Array E h.len) full_share p xs) (id⊢ 𝓤 _) (λ b o e.
    use1 𝓛 (‵ (fsep (feq ℕ (length xs) h.len) (row E full_share xs b o))) (Array-apart 𝓛 E full_share tt h.len xs b o) $ fsplit ! $ feq_l ! (λ lens.
    let fits_len : h.len < 2 ^ 64 = is.0.1.1.1.0.1 in
    let word = lowers.val_is h us is ∙ ap (λ (p : Ptr). lowers.lowered (record h { at = p }) ∷ []) e in
    let Words = λ (ws : List Val). ‵ (cell_at full_share S.mir ws rb ro) in
    rewrite ! 2 Words word refl $
    -- [the elements; the fields; the struct's cell; the open borrow, in three entries]
    first ! $ blocks ! $
    sets ! (of_opd ! (load ! (through ! refl (fld ! refl (stop !))) (look_in ! 2 (sub ! 0 refl (whole !))))) refl (tt, tt) $
    sets ! (of_opd ! (load ! (through ! refl (fld ! refl (stop !))) (look_in ! 2 (sub ! 1 refl (whole !))))) refl (tt, record { fits = fits_len }) $
    sets_last ! (agg ! (and_then ! (get ! refl) (and_then ! (get ! refl) (no_more !)))) refl (tt, (tt, (record { fits = fits_len }, tt))) $
    exec ! 𝓣.C 𝓣.Λ (env code.Mir.locals l) (after 1 (code.function).body) (at_ret (env code.Mir.locals l) (W.post y)) $
    sets ! (of_opd ! (get ! refl)) refl (tt, (tt, (record { fits = fits_len }, tt))) $
    rewrite ! 2 Words (sym word) refl $
    use1 𝓛 (‵ (cells (mem E) xs b o)) (whole_in 𝓛 E xs b o) $
    let roomy : length xs < 2 ^ 64 = omega (arith, fits_len, lens) in
    let fitting : length xs * type_size E < 2 ^ 63 = subst (λ (k : ℕ). k * type_size E < 2 ^ 63) (sym lens) small in
    let way = λ (ws : List Cell) (same : length ws ≡ length xs). returned 𝓛 E S ((Struct (shape the_type)).own_val (h.at, (h.len, tt)) us) (with_cells h ws) us h.at h.len rb ro b o ws refl e small (same ∙ lens) in
    move ! (1 ∷ 2 ∷ []) $ fjoin ! $ move ! (2 ∷ 3 ∷ 4 ∷ 1 ∷ 0 ∷ []) $ group ! 5 $
    use1 𝓛 (later (some (λ (δ : GName). raw (Elements 𝓛 S E (with_cells h) (named 0) κ q rb ro b o γ xs (roomy, fitting) (sem 𝓛 (Rest h us rb ro)) way δ))))
    (lends_Elements 𝓛 S E (with_cells h) (named 0) κ q rb ro b o γ xs (roomy, fitting) (sem 𝓛 (Rest h us rb ro)) way (S.coded.code h) (S.coded.code h)) $ await ! tt $ pick ! (λ δ.
    returns ! (look_at ! 0 refl) $ free_all ! refl $ keep ! (0 ∷ []) $
    let r : MutBor (List Cell) = record { ref_ptr = (b, o); ghost_name = δ; now = xs } in
    let Slice = λ (n : ℕ). ‵ ((MutSlice (named 0) κ E).own_val r (slice_val (b, o) n ∷ [])) in
    use1 𝓛 (Slice (length xs) ⊛ ‵ (flft κ q) ⊛ ‵ (follows S (Array E 0) γ δ (with_cells h))) (id⊢ 𝓤 _) $ split3 ! $
    rewrite ! 0 Slice lens refl $
    suffices ! _ (ends_at 𝓛 f.ended stayed c y (slice_val (b, o) h.len) r (tt, tt) (tt, tt)) $
    nothing ! $ nothing ! $ fjoin ! $ join ! $ nothing ! $ move ! (2 ∷ 0 ∷ []) $ join ! $ join ! $ frame ! $ says_two ! (refl, lens) $ done !))))))))
