-- What the walks of this crate cite.
pub use Rattle.std.proofs.Common.{◌≡◌, ℕ, List, [], ◌∷◌, ◌++◌, refl, sym, ap, subst, ◌∙◌, lit<, w64, true≢false}
pub use Rattle.std.proofs.raw_atomic.Walks.{proved, proved_at}
pub use base.Fraction.{full_share}
pub use base.Logic.{id⊢, emp, fst∗, never}
pub use base.Share
pub use base.Fml.{Fml, ftrue, fsep, flft}
pub use mir.Raw.{raw as bare}
pub use mir.Val.{Val, vptr, vnull}
pub use prog.Wp.{WpFn}
pub use contract.BorrowLft.{◌⊑◌}
pub use contract.Monad.{fact, fact_i}
pub use contract.Running.{tables}
pub use types.Logic.{sem}
pub use types.Kit.{Item, prop, at_ret, ‵, raw, ◌⊛◌, some, later, ◌$◌, ◌∵◌, !, qed, done, move, keep, drop, use0, use1, use2, split, split3, join, fsplit, fjoin, fpick, feq_i, feq_l, pick, await, rewrite, regoal, suffices, group}
pub use types.Run.{enter, of_opd, lit, stop, fld, no_more, and_then, first, blocks, exec, returns}
pub use types.Part.{whole, sub, agg}
pub use types.Tokens.{lft_new}
pub use types.ByLocal.{alloc_all, pass_all, free_all, look_at, get, get_in, sets, lands_as, lands_last, env}
pub use denote.Exit.{yes, no}
pub use denote.RawPtr.{Ptr, RawPtr, block_ptr, null_ptr, ptr_val, in_a_block}
pub use denote.Shadow.{pure_i}
pub use denote.Signature.{plain}
pub use denote.Steps.{nothing, heard, peeks, only}
pub use denote.Triple.Call.{calls_at, calls_at_last}
pub use denote.Triple.Entry.{on_entry}
pub use denote.Triple.Spec.{triple_of}
pub use denote.Triple.Table.{framed}
pub use denote.Triple.Walked.{Stays, walk_of, says, stay_dropped, Goes-dropped, ends_at}
