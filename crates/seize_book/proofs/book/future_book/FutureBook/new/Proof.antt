-- `new` takes a family that no book has, and gives it twice: what names it has nothing to show.
use Rattle.seize_book.proofs.Kit.{RattleType, ℕ, [], ◌∷◌, refl, proved, Val, SProp, emp, ftrue, fact_i, of_opd, nothing, ‵, raw, ◌⊛◌, some, later, await, ◌$◌, ◌∵◌, !, qed, by, move, keep, split, fjoin, pick, use0, use2, no_more, and_then, returns, enter, alloc_all, pass_all, free_all, look_at, get, sets, agg, tables, owns, types_at, Stays, walk_of}
use denote.Struct.Tuple.{Tuple}
use Rattle.seize_store.specs.contracts.family.Family as Family
use Rattle.seize_book.specs.Tokens.{free_family}
use Rattle.seize_book.proofs.Begins.{new_family}
use Rattle.seize_book.proofs.Fields.{Token, token, token_made, ends}
use Rattle.seize_book.proofs.Tuples.{pair_val, pair_of}
use Rattle.seize_book.specs.contracts.book.future_book.FutureBook as FutureBook
use Rattle.seize_book.specs.contracts.book.future_book.FutureBook.new.{ended, clauses}
use Rattle.seize_book.specs.contracts.book.future_book.FutureBook.new.Key.{name as #self}
use Rattle.seize_book.proofs.book.future_book.FutureBook.new.Statement.{statement}
use Rattle.seize_book.proofs.book.future_book.FutureBook.new.Code as code

pub new_spec : {M : Type 1} → statement M
new_spec 𝓤 𝓛 𝓜 𝓡 wired =
    let H = 𝓛.H in let 𝓣 = tables 𝓤 H 𝓜 𝓡 𝓡.env in let c = clauses 𝓛 𝓜.mem 𝓡.returns in let fn = code.function in let hs : Stays ended.signature.params ended.kept = tt in
    proved 𝓛 ended hs c 𝓜 𝓡 tt #self fn (code.unfolded 𝓤 H 𝓜 𝓡 wired) (λ κs. tt) (λ κs. tt) (λ κs qs bounds a gh are.
    let Two : RattleType = Tuple (FutureBook.the_row ∷ Family.the_row ∷ []) in let pair : Val = pair_val token token in
    let y : (walk_of 𝓛 ended hs c).Ghost = ((κs, qs, bounds, a, tt), gh) in let Post : Val → SProp 𝓤 = (walk_of 𝓛 ended hs c).post y in
    qed 𝓛 ((‵ ftrue ⊛ ‵ (owns (types_at ended.signature.params κs) a y.0.4)) ∷ raw ((c κs a).requires gh) ∷ []) ∵ split ! $ keep ! (0 ∷ 1 ∷ []) $
    enter ! 𝓣.C 𝓣.Λ fn [] Post $ alloc_all ! (λ l. pass_all ! refl tt $
    use0 𝓛 (later (some (λ (f : ℕ). ‵ (free_family f)))) (new_family 𝓛) $ await ! tt $ pick ! (λ f.
    let u : FutureBook.the_row.Denot = record { marker = record {}; family = f } in let k : Family.the_row.Denot = record { marker = record {}; number = f } in
    use0 𝓛 (‵ (Token.own_val (record {}, tt) (token ∷ []))) (token_made 𝓛) $ fjoin ! $
    nothing ! $ use0 𝓛 (‵ (Token.own_val (record {}, tt) (token ∷ []))) (token_made 𝓛) $ fjoin ! $
    move ! (1 ∷ 0 ∷ []) $ use2 𝓛 (‵ (Two.own_val (u, k) (pair ∷ []))) (pair_of 𝓛 FutureBook.the_row Family.the_row u k token token) $
    sets ! (agg ! (no_more !)) refl (tt, tt) $ sets ! (agg ! (and_then ! (get ! refl) (no_more !))) refl (tt, (tt, tt)) $
    sets ! (agg ! (no_more !)) refl (tt, tt) $ sets ! (agg ! (and_then ! (get ! refl) (no_more !))) refl (tt, (tt, tt)) $
    sets ! (of_opd ! (get ! refl)) refl (tt, (tt, tt)) $
    sets ! (agg ! (and_then ! (get ! refl) (and_then ! (get ! refl) (no_more !)))) refl (tt, ((tt, tt), ((tt, tt), tt))) $
    -- [the result; the tokens; nothing]
    returns ! (look_at ! 0 refl) $ free_all ! refl $ keep ! (1 ∷ 2 ∷ 0 ∷ []) $
    by ! (ends 𝓛 ended hs c y pair (u, k) tt tt (fact_i 𝓤 _ (emp 𝓤) refl)))))
