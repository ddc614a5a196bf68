-- `look` adds nothing, with no step.
use Rattle.seize_book.proofs.CallKit.{List, [], ◌∷◌, refl, sym, ‵, ◌⊛◌, some, given, later, await, heard, ◌$◌, !, move, split, pick, learn, rewrite, use2, calls, told, unit2, No, keys, pass, Entry, Before, Name, keys_own, pass_owns, IsDistinct}
use Rattle.seize_book.specs.Ledger.{with_list}
use Rattle.seize_book.proofs.Looks.{looks_now}
use Rattle.seize_book.specs.contracts.book.keys.Keys.look.{ended, clauses}
use Rattle.seize_book.specs.contracts.book.keys.Keys.look.Key.{name as #self}
use Rattle.seize_book.proofs.book.keys.Keys.look.Statement.{statement}
use Rattle.seize_book.proofs.book.keys.Keys.look.Code as code

pub look_spec : {M : Type 1} → statement M
look_spec 𝓤 𝓛 𝓜 𝓡 wired =
    calls 𝓛 ended (keys 𝓛 0 tt, (pass 𝓛 1 tt 2 tt, tt)) (clauses 𝓛 𝓜.mem 𝓡.returns) _ (λ κs. No 𝓛) 𝓜 𝓡 #self _ (code.unfolded 𝓤 𝓛.H 𝓜 𝓡 wired) (λ κs qs. refl) (λ κs a are. unit2 𝓛 (tt, tt) (tt, tt)) (λ κs qs a are gh is end.
    let p = a.0.now in let r = a.1.0.now in move ! (2 ∷ 0 ∷ 1 ∷ []) $ heard ! _ (λ asked. rewrite ! 0 (λ (z : Name). ‵ (keys_own z p.held)) asked.0 refl $ move ! (1 ∷ 0 ∷ []) $
    use2 𝓛 (later (some (λ (log : List Entry). given (Before r.name r.id r.seen p.held log × IsDistinct 𝓛 r.name) (‵ (pass_owns r.name r.id log) ⊛ ‵ (keys_own r.name (with_list p.held log)))))) (looks_now 𝓛 r.name r.id r.seen p.held asked.1) $ await ! tt $ pick ! (λ log. learn ! (λ so. split ! $
    move ! (1 ∷ []) $ rewrite ! 0 (λ (z : Name). ‵ (keys_own z (with_list p.held log))) (sym asked.0) refl $
    end tt (record p { held = with_list p.held log }, (log, tt)) (told 𝓤 ((refl, refl, refl), (refl, refl), so.0, so.1))))))
