-- `of` makes a lent table of entries that are its own for good: a walk of its MIR by hand. Assumes nothing.
use Rattle.plate_c.proofs.Steps.{ !, Array, Array-whole, Goes-spent_slice, MutSlice, RattleType, Room, Stays, Val, Valss, [], addr, agg, alloc_all, and_then, block_ptr, done, ends_at, enter, feq_i, fjoin, fld, flft, flt_i, fpack, free_all, from, fsplit3, ftrue, full_share, get, get_in, hop, join, keep, length, look_at, look_in_at, move, mut_slice_Tells, mut_slice_of, no, mut_slice_vals, name_of, no_more, nothing, of_opd, opens_slice, part_at, pass_all, plain, proved, qed, refl, returns, says_two, sets, shape, split, drop, List, stay_dropped, stop, sub, suffices, tables, type_size, u64, use0, use1, vint, vptr, walk_of, whole, within, w64, ‵, ℕ, ◌$◌, ◌*◌, ◌^◌, ◌∵◌, ◌∷◌, ◌⊛◌}
use Rattle.queue.specs.contracts.offer.Offer.{the_row as offer_row}
use Rattle.plate_c.specs.contracts.lent.LentEntries.{the_type}
use Rattle.plate_c.specs.contracts.lent.LentEntries.of as f
use Rattle.plate_c.specs.declared.lent.LentEntries.{LentEntries}
use Rattle.plate_c.proofs.lent.LentEntries.TheLaws.{lowers}
use Rattle.plate_c.proofs.lent.LentEntries.of.Code as code
use Rattle.plate_c.proofs.lent.LentEntries.of.Statement.{statement}

-- the row of an element
abbrev E : RattleType
E = offer_row u64

-- nothing is left of the slice at the return: its values went into the table
abbrev stayed : Stays f.ended.signature.params f.ended.kept
stayed = (stay_dropped (mut_slice_of [] tt (plain (λ _. E))) no, tt)

pub of_spec : {M : Type 1} → statement M
of_spec 𝓤 𝓛 𝓜 𝓡 wired =
    let c = f.clauses 𝓛 𝓜.mem 𝓡.returns in let W = walk_of 𝓛 f.ended stayed c in let 𝓣 = tables 𝓤 𝓛.H 𝓜 𝓡 𝓡.env in
    proved 𝓛 f.ended stayed c 𝓜 𝓡 (Goes-spent_slice 𝓛 0 [] tt (plain (λ _. E)), tt)
    f.Key.name code.function (code.unfolded 𝓤 𝓛.H 𝓜 𝓡 wired)
    (λ κs. (mut_slice_vals, tt)) (λ κs. (mut_slice_Tells (name_of []) [] E, tt)) (λ κs qs bounds a _ are.
    let r = a.0 in let b = r.ref_ptr.0 in let o = r.ref_ptr.1 in let xs = r.now in let n = length xs in let vs = mut_slice_vals r in
    let room : Room E n = are.0.0.1 in
    let y : W.Ghost = ((κs, qs, bounds, a, (vs, tt)), tt) in
    qed 𝓛 ((‵ ftrue ⊛ ‵ ((MutSlice (name_of []) [] E).own_val r vs) ⊛ ‵ ftrue) ∷ ‵ ftrue ∷ []) ∵
    split ! $ drop ! $ split ! $ keep ! (0 ∷ []) $
    enter ! _ _ _ _ _ $ alloc_all ! (λ l. pass_all ! refl ((tt, (tt, (record { fits = room.0 }, tt))), tt) $
    fsplit3 ! $ drop ! $ use0 𝓛 (‵ (flft [] full_share)) (𝓛.lfts.lft-nil full_share) $ move ! (1 ∷ 2 ∷ 0 ∷ []) $
    opens_slice ! tt E xs b o $
    -- [the elements; the open borrow, which is never closed, in three entries]
    feq_i ! ℕ n n refl $ fjoin ! $ use1 𝓛 (‵ (part_at (Array E n) full_share xs b o)) (Array-whole 𝓛 E full_share n xs b o) $
    sets ! (addr ! (from ! (fld ! refl (hop ! (look_in_at ! 1 (sub ! 0 refl (whole !))) (stop !))))) refl (tt, tt) $
    sets ! (of_opd ! (get_in ! (fld ! refl (stop !)) (sub ! 1 refl (whole !)))) refl (tt, record { fits = room.0 }) $
    sets ! (agg ! (and_then ! (get ! refl) (and_then ! (get ! refl) (no_more !)))) refl (tt, (tt, (record { fits = room.0 }, tt))) $
    returns ! (look_at ! 0 refl) $ free_all ! refl $ keep ! (0 ∷ []) $
    let t : LentEntries = record { at = block_ptr b o; len = n; entries = xs } in
    let v : Val = lowers.lowered t in
    flt_i ! (n * type_size E) (2 ^ 63) room.1 $ fjoin ! $
    nothing ! $ flt_i ! n (2 ^ 64) room.0 $ feq_i ! (List Val) (vint w64 n ∷ []) (vint w64 n ∷ []) refl $ fjoin ! $ fjoin ! $
    feq_i ! (List Val) (vptr b o ∷ []) (vptr b o ∷ []) refl $ fjoin ! $ feq_i ! (List Val) (v ∷ []) (v ∷ []) refl $ fjoin ! $
    fpack ! (Valss (shape the_type).fields) (within (shape the_type) (block_ptr b o, (n, tt)) (v ∷ [])) (vptr b o ∷ [], (vint w64 n ∷ [], tt)) $ fjoin ! $
    suffices ! _ (ends_at 𝓛 f.ended stayed c y v t (tt, tt) (tt, tt)) $ says_two ! (refl, refl) $
    nothing ! $ nothing ! $ join ! $ nothing ! $ done !))
