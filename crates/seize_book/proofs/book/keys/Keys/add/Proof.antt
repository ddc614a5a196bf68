-- `note` adds one event, with no step.
use Rattle.seize_book.proofs.CallKit.{List, [], ◌∷◌, refl, sym, ‵, raw, ◌⊛◌, some, given, later, await, heard, ◌$◌, !, move, drop, split, pick, learn, rewrite, use1, use2, calls, told, unit2, No, keys, adder, beside, Entry, HeldKey, Name, keys_own, pass_owns, id⊢, fact}
use Rattle.std.proofs.Common.{◌≤◌, arith}
use mir.Syntax.{a_type, dcons, dnil}
use denote.Param.{bounded}
use Rattle.seize_book.specs.Entry.{Deed}
use Rattle.seize_book.specs.Adding.{Asks, deed_with_words}
use Rattle.seize_book.specs.Fair.{AddsEntryWith}
use Rattle.seize_book.proofs.Adds.{adds}
use Rattle.seize_book.specs.contracts.book.keys.Keys.add.{ended, clauses}
use Rattle.seize_book.specs.contracts.book.keys.Keys.add.Key.{name as #self}
use Rattle.seize_book.proofs.book.keys.Keys.add.Statement.{statement}
use Rattle.seize_book.proofs.book.keys.Keys.add.Code as code

pub add_spec : {M : Type 1} → statement M
add_spec 𝓤 𝓛 𝓜 𝓡 wired P LP g d _ =
    let inst = bounded (a_type ∷ []) (P, tt) (dcons d dnil) in calls 𝓛 (ended P g d) (keys 𝓛 0 tt, (beside 𝓛 3 tt (adder 𝓛 1 tt 2 tt), tt)) (clauses P g d 𝓛 𝓜.mem 𝓡.returns) _ (λ κs. No 𝓛) 𝓜 𝓡 (#self inst) _ (code.unfolded 𝓤 𝓛.H 𝓜 𝓡 wired (P, tt) d) (λ κs qs. refl) (λ κs a are. unit2 𝓛 (tt, tt) (tt, tt)) (λ κs qs a are gh is end.
    let p = a.0.now in let r = a.1.0.now in let e : Deed = deed_with_words r g.event g.kepts in
    move ! (2 ∷ 0 ∷ 1 ∷ []) $ use1 𝓛 (raw (fact 𝓤 _) ⊛ raw (fact 𝓤 (Asks p r e))) (id⊢ 𝓤 _) $ split ! $ drop ! $ heard ! _ (λ asked. rewrite ! 0 (λ (z : Name). ‵ (keys_own z p.held)) asked.0 refl $ move ! (1 ∷ 0 ∷ []) $
    use2 𝓛 (later (some (λ (t : List Entry × List (HeldKey Entry)). given (AddsEntryWith r.name r.id r.seen t.0 p.held t.1 e) (‵ (pass_owns r.name r.id t.0) ⊛ ‵ (keys_own r.name t.1)))))
    (adds 𝓛 r.name r.id r.seen p.held e r.size refl (let le : r.size ≤ r.size = omega arith in le) asked.1) $ await ! tt $ pick ! (λ t. learn ! (λ so. split ! $
    move ! (1 ∷ []) $ rewrite ! 0 (λ (z : Name). ‵ (keys_own z t.1)) (sym asked.0) refl $
    end tt (record p { held = t.1 }, (t.0, tt)) (told 𝓤 ((refl, refl, refl), refl, so))))))
