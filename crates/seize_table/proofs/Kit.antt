-- The names that walks cite, passed on.
pub use Rattle.std.proofs.Common.{◌≡◌, ℕ, List, [], ◌∷◌, ◌++◌, sym, refl, ap, ◌∙◌, subst, w64}
pub use Rattle.std.proofs.raw_atomic.Walks.{proved, proved_at, leaves}
pub use mir.Syntax.{named, a_type}
pub use mir.Val.{Val, vunit, vint, vptr, vstruct, vcons, vnil}
pub use mir.MapTy.{inst_fn}
pub use denote.Plain.{uint_vals, uint_Tells}
pub use prog.Wp.{WpFn}
pub use seplogic.Ra.Ura.{Ura}
pub use base.Logic.{SProp, ent, sep, wand, all, all_e, emp, id⊢, via, fst∗, snd∗, apply∗}
pub use base.Fml.{Lft, Share, Fml, ftrue, fsep, fex, flft, fbor, fobs, fauth, fres, fhide}
pub use types.Logic.{Logic, sem}
pub use types.Kit.{‵, raw, ◌⊛◌, later, ◌$◌, ◌∵◌, !, qed, by, move, keep, drop, split, join, fsplit, fjoin, fpick, fpack, use0, use1, use2, await, rewrite, feq_i, suffices, frame, done}
pub use types.Run.{unit_lit, of_opd, no_more, and_then, returns, enter}
pub use types.ByLocal.{alloc_all, pass_all, free_all, look_at, get, sets}
pub use types.Part.{agg}
pub use contract.Monad.{fact, fact_i}
pub use contract.Running.{tables}
pub use denote.Exit.{yes}
pub use denote.RattleType.{RattleType, owns}
pub use denote.Signature.{types_at, type_at, plain}
pub use denote.Builtin.{RawPtr, RefOf, unit, usize}
pub use denote.Ref.{shr_vals, shr_Tells}
pub use denote.Memory.{hidden_shr}
pub use denote.Opens.{unhide}
pub use denote.Param.{param, layouts}
pub use denote.Param.Laws.{param_laws}
pub use denote.Sharing.{said}
pub use denote.Shadow.{makes_shadow}
pub use denote.Steps.{nothing, heard}
pub use denote.Struct.Lending.{lent_out}
pub use denote.Struct.Struct.{Struct}
pub use denote.Struct.Owning.{shape}
pub use denote.Triple.Walked.{Stays, stay_dropped, stay_ref, walk_of, Goes-dropped, Goes-ref}
