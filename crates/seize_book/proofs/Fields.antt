-- The machine values of the tokens, and how a walk ends. Assumes `Logic`.
use Rattle.seize_book.proofs.Kit.{List, [], ◌∷◌, ◌++◌, ◌∙◌, refl, Val, vstruct, vcons, vnil, Ura, ent, sep, emp, Logic, sem, ‵, raw, ◌$◌, ◌∵◌, !, qed, by, move, use0, RattleType, makes_shadow, walk_of, leaves, Stays}
use denote.Signature.{static_lft, type_at}
use denote.Builtin.{unit}
use denote.Struct.Struct.{Struct}
use denote.Triple.Clauses.{Ended, Clauses, Lasts, at_exit}
use denote.Triple.Entry.{Res, alive}
use denote.Triple.Walked.{Fit, has_of}
use denote.Laws.{Is, Tells}
use mir.Val.{of_list}
use Rattle.core.specs.contracts.marker.PhantomData as marker
use Rattle.seize_book.specs.contracts.book.key_without_note.KeyWithoutNote as opened
use Rattle.seize_book.specs.contracts.book.pass.Pass as pass
use Rattle.seize_book.specs.contracts.book.permit.Permit as permit
use Rattle.seize_book.specs.contracts.book.porter.Porter as porter
use Rattle.seize_book.specs.contracts.book.future_book.FutureBook as unopened

abbrev pub token : Val
token = vstruct (vcons (vstruct vnil) vnil)

abbrev pub Token : RattleType
Token = Struct record { name = []; args = []; types = []; fields = marker.the_row unit ∷ [] }

pub token_made : {M : Type 1} {𝓤 : Ura M} (𝓛 : Logic 𝓤) → ent 𝓤 (emp 𝓤) (sem 𝓛 (Token.own_val (record {}, tt) (token ∷ [])))
token_made 𝓛 = makes_shadow 𝓛 (Token.own_val (record {}, tt) (token ∷ [])) (λ vss. (tt, ((λ uss. (tt, tt)), tt))) ((vstruct vnil ∷ [], tt), (refl, ((tt, (refl, tt)), tt)))

abbrev pub no_bytes : {D : Type 0} → D → List Val
no_bytes d = token ∷ []

pub unopened_tells : Tells unopened.the_row (Is unopened.the_row) no_bytes
unopened_tells d vs is = is.0.1.0 ∙ (λ i. vstruct (of_list (is.0.1.1.0.1.0 i ++ [])) ∷ [])

pub opened_tells : Tells opened.the_row (Is opened.the_row) no_bytes
opened_tells d vs is = is.0.1.0 ∙ (λ i. vstruct (of_list (is.0.1.1.0.1.0 i ++ [])) ∷ [])

pub pass_tells : Tells (pass.the_row static_lft) (Is (pass.the_row static_lft)) no_bytes
pass_tells d vs is = is.0.1.0 ∙ (λ i. vstruct (of_list (is.0.1.1.0.1.0 i ++ [])) ∷ [])

pub permit_tells : Tells permit.the_row (Is permit.the_row) no_bytes
permit_tells d vs is = is.0.1.0 ∙ (λ i. vstruct (of_list (is.0.1.1.0.1.0 i ++ [])) ∷ [])

pub porter_tells : Tells porter.the_row (Is porter.the_row) no_bytes
porter_tells d vs is = is.0.1.0 ∙ (λ i. vstruct (of_list (is.0.1.1.0.1.0 i ++ [])) ∷ [])

pub ends : {M : Type 1} {𝓤 : Ura M} (𝓛 : Logic 𝓤) (T : Ended) (hs : Stays T.signature.params T.kept) (c : Clauses 𝓤 T) (y : (walk_of 𝓛 T hs c).Ghost) (v : Val) (r : Res T.signature y.0.0) (ws : Lasts T y.0.0 y.0.3)
    → Fit T hs y.0.0 y.0.3 ws → ent 𝓤 (emp 𝓤) ((c y.0.0 y.0.3).ensures y.1 r (at_exit T y.0.0 y.0.3 ws))
    → ent 𝓤 (sep 𝓤 (alive 𝓛 T.signature y.0.0 y.0.1) (sep 𝓤 (sem 𝓛 (has_of y.0.0 T.signature.params T.kept hs y.0.3 ws y.0.4)) (sem 𝓛 ((type_at T.signature.result y.0.0).own_val r (v ∷ []))))) ((walk_of 𝓛 T hs c).post y v)
ends 𝓛 T hs c y v r ws fit told = qed 𝓛 (raw (alive 𝓛 T.signature y.0.0 y.0.1) ∷ ‵ (has_of y.0.0 T.signature.params T.kept hs y.0.3 ws y.0.4) ∷ ‵ ((type_at T.signature.result y.0.0).own_val r (v ∷ [])) ∷ []) ∵
    use0 𝓛 (raw ((c y.0.0 y.0.3).ensures y.1 r (at_exit T y.0.0 y.0.3 ws))) told $ move ! (1 ∷ 2 ∷ 3 ∷ []) $ by ! (leaves 𝓛 T hs c y v r ws fit)
