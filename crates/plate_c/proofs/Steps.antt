-- What the proofs of the lent tables cite. Assumes nothing.
pub use Rattle.std.proofs.Common.{◌≡◌, ℕ, ◌*◌, ◌^◌, ◌<◌, List, [], ◌∷◌, length, refl, sym, ap, ◌∙◌, subst, arith, MutBor}
pub use Rattle.std.proofs.VecSteps.Shapes.{after}
pub use Rattle.std.proofs.mem.Facts.{says_two}
pub use Rattle.std.proofs.raw_atomic.Walks.{proved}
pub use Rattle.std.specs.Mem.{type_size}
pub use base.Fml.{Fml, GName, feq, flft, fsep, ftrue}
pub use base.Fraction.{full_share}
pub use base.Logic.{ent, id⊢, sep}
pub use contract.Running.{tables}
pub use denote.Array.{Array}
pub use denote.ArrayMemory.{Array-apart, Array-whole}
pub use denote.Builtin.{u64}
pub use denote.Exit.{no}
pub use denote.Follow.{follows}
pub use denote.FollowSlice.{Elements, lends_Elements}
pub use denote.Index.{opens_slice, row, whole_in, whole_out}
pub use denote.Laws.{shows}
pub use denote.Memory.{cell_at, mem, part_at}
pub use denote.RattleType.{RattleType, Valss}
pub use denote.RawPtr.{Ptr, block_ptr, in_a_block, lies_at}
pub use denote.Ref.{MutRef, mut_Tells, mut_vals}
pub use denote.Signature.{mut_ref_to, mut_slice_of, name_of, plain}
pub use denote.Slice.{MutSlice, Room, mut_slice_Tells, mut_slice_vals, slice_val}
pub use denote.Steps.{nothing, opens, peeks}
pub use denote.Struct.Owning.{shape}
pub use denote.Struct.Struct.{Struct, within}
pub use denote.Triple.Walked.{Goes-spent_ref, Goes-spent_slice, Stays, ends_at, stay_dropped, walk_of}
pub use mir.Syntax.{named, w64}
pub use mir.Val.{Val, vint, vptr}
pub use seplogic.Ra.Ura.{Ura}
pub use types.ByLocal.{alloc_all, env, free_all, get, get_in, look_at, look_in_at, pass_all, sets, sets_last, through}
pub use types.Kit.{ !, at_ret, await, done, drop, feq_i, feq_l, fjoin, flt_i, flt_l, fpack, frame, fsplit, fsplit3, group, join, keep, later, move, pick, qed, raw, rewrite, some, split, split3, suffices, use0, use1, ‵, ◌$◌, ◌∵◌, ◌⊛◌}
pub use types.Logic.{Logic, sem}
pub use types.Part.{agg, look_in, sub, whole}
pub use types.Run.{addr, and_then, blocks, enter, exec, first, fld, from, hop, load, no_more, of_opd, returns, stop}
pub use types.SemTy.{cells}
