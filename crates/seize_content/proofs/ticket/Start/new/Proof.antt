-- `new` begins a list of stages, with its ticket.
use Rattle.seize_content.proofs.Kit.{◌≡◌, ℕ, [], ◌∷◌, refl, proved, leaves, Val, SProp, emp, ftrue, ‵, raw, ◌⊛◌, some, later, ◌$◌, ◌∵◌, !, qed, by, move, keep, split, fjoin, pick, use0, use2, await, no_more, and_then, returns, enter, alloc_all, pass_all, free_all, look_at, get, sets, agg, fact, fact_i, tables, RattleType, owns, types_at, Stays, walk_of}
use denote.Builtin.{unit}
use denote.Param.{layout}
use denote.Struct.Tuple.{Tuple}
use Rattle.std_alloc.proofs.Pairs.{pair_val, pair_Typed, pair_of}
use Rattle.seize_content.specs.Stages.{held}
use Rattle.seize_content.specs.Contents.{named, ticket_owns}
use Rattle.seize_content.specs.contracts.ticket.Start as start
use Rattle.seize_content.specs.contracts.ticket.Ticket as ticket
use Rattle.seize_content.proofs.Fields.{token, Marked, marked_made}
use Rattle.seize_content.proofs.Loans.{starts}
use Rattle.seize_content.specs.contracts.ticket.Start.new.{ended, clauses}
use Rattle.seize_content.specs.contracts.ticket.Start.new.Key.{name as #self}
use Rattle.seize_content.proofs.ticket.Start.new.Statement.{statement}
use Rattle.seize_content.proofs.ticket.Start.new.Code as code

pub new_spec : {M : Type 1} → statement M
new_spec 𝓤 𝓛 𝓜 𝓡 wired =
    let H = 𝓛.H in let 𝓣 = tables 𝓤 H 𝓜 𝓡 𝓡.env in let En = ended in let c = clauses 𝓛 𝓜.mem 𝓡.returns in let fn = code.function in let hs : Stays En.signature.params En.kept = tt in
    let S : RattleType = start.the_row in let T : RattleType = ticket.the_row in let Two : RattleType = Tuple (S ∷ T ∷ []) in let pair : Val = pair_val token token in
    proved 𝓛 En hs c 𝓜 𝓡 tt #self fn (code.unfolded 𝓤 H 𝓜 𝓡 wired) (λ κs. tt) (λ κs. tt) (λ κs qs bounds a gh are.
    let y : (walk_of 𝓛 En hs c).Ghost = ((κs, qs, bounds, a, tt), gh) in let Post : Val → SProp 𝓤 = (walk_of 𝓛 En hs c).post y in
    qed 𝓛 ((‵ ftrue ⊛ ‵ (owns (types_at En.signature.params κs) a y.0.4)) ∷ raw ((c κs a).requires gh) ∷ []) ∵ split ! $ keep ! (0 ∷ 1 ∷ []) $
    enter ! 𝓣.C 𝓣.Λ fn [] Post $ alloc_all ! (λ l. pass_all ! refl tt $
    use0 𝓛 (later (some (λ (γ : ℕ). ‵ (named γ held) ⊛ ‵ (ticket_owns γ held)))) (starts 𝓛 held) $ await ! tt $ pick ! (λ γ. split ! $
    sets ! (agg ! (no_more !)) refl (tt, tt) $ sets ! (agg ! (and_then ! (get ! refl) (no_more !))) refl (tt, (tt, tt)) $
    sets ! (agg ! (no_more !)) refl (tt, tt) $ sets ! (agg ! (and_then ! (get ! refl) (no_more !))) refl (tt, (tt, tt)) $
    sets ! (agg ! (and_then ! (get ! refl) (and_then ! (get ! refl) (no_more !)))) refl (pair_Typed (layout S) (layout T) token token (tt, (tt, tt)) (tt, (tt, tt))) $
    let r : S.Denot = record { marker = record {}; name = γ } in let t : T.Denot = record { marker = record {}; name = γ; says = held } in
    use0 𝓛 (‵ ((Marked unit).own_val (record {}, tt) (token ∷ []))) (marked_made unit 𝓛) $ fjoin ! $ move ! (1 ∷ []) $ use0 𝓛 (‵ ((Marked unit).own_val (record {}, tt) (token ∷ []))) (marked_made unit 𝓛) $ fjoin ! $
    move ! (1 ∷ 0 ∷ []) $ use2 𝓛 (‵ (Two.own_val (r, t) (pair ∷ []))) (pair_of 𝓛 S T r t token token) $
    -- [the result; the tokens; the parameters]
    let Told : Type 0 = (γ ≡ γ) × (held ≡ held) in use0 𝓛 (raw (fact 𝓤 Told)) (fact_i 𝓤 Told (emp 𝓤) (refl, refl)) $
    returns ! (look_at ! 0 refl) $ free_all ! refl $ keep ! (2 ∷ 3 ∷ 1 ∷ 0 ∷ []) $ by ! (leaves 𝓛 En hs c y pair (r, t) tt tt))))
