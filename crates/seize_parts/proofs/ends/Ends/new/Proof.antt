-- `new` makes a reclaimer that ended none.
use Rattle.seize_book.proofs.Kit.{[], ◌∷◌, refl, proved, Val, SProp, emp, ftrue, ‵, raw, ◌⊛◌, ◌$◌, ◌∵◌, !, qed, by, keep, split, fjoin, use0, nothing, no_more, and_then, returns, enter, alloc_all, pass_all, free_all, look_at, get, sets, agg, fact_i, tables, owns, types_at, Stays, walk_of}
use base.Stored.{gnil}
use Rattle.seize_book.proofs.Fields.{Token, token, token_made, ends}
use Rattle.seize_parts.specs.contracts.ends.Ends.new.{ended, clauses}
use Rattle.seize_parts.specs.contracts.ends.Ends.new.Key.{name as #self}
use Rattle.seize_parts.proofs.ends.Ends.new.Statement.{statement}
use Rattle.seize_parts.proofs.ends.Ends.new.Code as code

pub new_spec : {M : Type 1} → statement M
new_spec 𝓤 𝓛 𝓜 𝓡 wired =
    let H = 𝓛.H in let 𝓣 = tables 𝓤 H 𝓜 𝓡 𝓡.env in let c = clauses 𝓛 𝓜.mem 𝓡.returns in let hs : Stays ended.signature.params ended.kept = tt in
    proved 𝓛 ended hs c 𝓜 𝓡 tt #self code.function (code.unfolded 𝓤 H 𝓜 𝓡 wired) (λ κs. tt) (λ κs. tt) (λ κs qs bounds a gh are.
    let y : (walk_of 𝓛 ended hs c).Ghost = ((κs, qs, bounds, a, tt), gh) in let Post : Val → SProp 𝓤 = (walk_of 𝓛 ended hs c).post y in
    qed 𝓛 ((‵ ftrue ⊛ ‵ (owns (types_at ended.signature.params κs) a y.0.4)) ∷ raw ((c κs a).requires gh) ∷ []) ∵ split ! $ keep ! (0 ∷ 1 ∷ []) $
    enter ! 𝓣.C 𝓣.Λ code.function [] Post $ alloc_all ! (λ l. pass_all ! refl tt $
    sets ! (agg ! (no_more !)) refl (tt, tt) $ sets ! (agg ! (and_then ! (get ! refl) (no_more !))) refl (tt, (tt, tt)) $
    nothing ! $ use0 𝓛 (‵ (Token.own_val (record {}, tt) (token ∷ []))) (token_made 𝓛) $ fjoin ! $
    returns ! (look_at ! 0 refl) $ free_all ! refl $ keep ! (1 ∷ 2 ∷ 0 ∷ []) $
    by ! (ends 𝓛 ended hs c y token (record { marker = record {}; had = []; at = gnil }) tt tt (fact_i 𝓤 _ (emp 𝓤) refl))))
