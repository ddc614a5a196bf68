-- `new` begins a list with no code.
use Rattle.seize_book.proofs.Kit.{ℕ, List, [], ◌∷◌, refl, proved, Val, SProp, emp, Fml, ftrue, fsep, flft, ‵, raw, ◌⊛◌, some, later, ◌$◌, ◌∵◌, !, qed, by, keep, split, fjoin, pick, await, use0, no_more, and_then, returns, enter, alloc_all, pass_all, free_all, look_at, get, sets, agg, fact_i, tables, RattleType, owns, types_at, nothing, Stays, walk_of}
use mir.Syntax.{a_type, dcons, dnil}
use mir.MapTy.{inst_fn}
use denote.Param.{param, bounded}
use Rattle.seize_content.proofs.Fields.{Marked, marked_made, token}
use Rattle.seize_book.specs.Permits.{knows_permits}
use Rattle.seize_book.specs.contracts.book.permit.Permits as Permits
use Rattle.seize_book.proofs.Fields.{ends}
use Rattle.seize_book.proofs.Permits.{begins}
use Rattle.seize_book.specs.contracts.book.permit.Permits.new.{ended, clauses}
use Rattle.seize_book.specs.contracts.book.permit.Permits.new.Key.{name as #self}
use Rattle.seize_book.proofs.book.permit.Permits.new.Statement.{statement}
use Rattle.seize_book.proofs.book.permit.Permits.new.Code as code

pub new_spec : {M : Type 1} → statement M
new_spec 𝓤 𝓛 𝓜 𝓡 wired X Y L LY g dict k kdict met kmet =
    let H = 𝓛.H in let 𝓣 = tables 𝓤 H 𝓜 𝓡 𝓡.env in let R : RattleType = param 0 X in let En = ended X Y g dict k kdict in let inst = bounded (a_type ∷ a_type ∷ []) (X, (Y, tt)) (dcons dict (dcons kdict dnil)) in let fn = inst_fn inst code.function in
    let Row : RattleType = Permits.the_row R g in let c = clauses X Y g dict k kdict 𝓛 𝓜.mem 𝓡.returns in let hs : Stays En.signature.params En.kept = tt in
    proved 𝓛 En hs c 𝓜 𝓡 tt (#self inst) fn (code.unfolded 𝓤 H 𝓜 𝓡 wired (X, (Y, tt)) dict kdict)
    (λ κs. tt) (λ κs. tt) (λ κs qs bounds a gh are.
    let s : List ℕ = k.store in
    let y : (walk_of 𝓛 En hs c).Ghost = ((κs, qs, bounds, a, tt), gh) in let Post : Val → SProp 𝓤 = (walk_of 𝓛 En hs c).post y in let toks : Fml = fsep (flft κs.0 qs.0) (fsep (flft κs.1.0 qs.1.0) ftrue) in
    qed 𝓛 ((‵ toks ⊛ ‵ (owns (types_at En.signature.params κs) a y.0.4)) ∷ raw ((c κs a).requires gh) ∷ []) ∵ split ! $ keep ! (0 ∷ []) $
    enter ! 𝓣.C 𝓣.Λ fn [] Post $ alloc_all ! (λ l. pass_all ! refl tt $
    use0 𝓛 (later (some (λ (γ : ℕ). ‵ (knows_permits (g.holds s) γ)))) (begins 𝓛 (g.holds s)) $ await ! tt $ pick ! (λ γ. let r : Row.Denot = record { marker = record {}; list = γ; store = s } in
    sets ! (agg ! (no_more !)) refl (tt, tt) $ sets ! (agg ! (and_then ! (get ! refl) (no_more !))) refl (tt, (tt, tt)) $
    use0 𝓛 (‵ ((Marked R).own_val (record {}, tt) (token ∷ []))) (marked_made R 𝓛) $ fjoin ! $
    -- [the result; the tokens]
    nothing ! $ returns ! (look_at ! 0 refl) $ free_all ! refl $ keep ! (2 ∷ 0 ∷ 1 ∷ []) $
    by ! (ends 𝓛 En hs c y token r tt tt (fact_i 𝓤 _ (emp 𝓤) refl)))))
