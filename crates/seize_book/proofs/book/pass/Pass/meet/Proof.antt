-- `meet` makes no event.
use Rattle.seize_book.proofs.CallKit.{◌≡◌, List, [], ◌∷◌, refl, sym, subst, ‵, ◌⊛◌, some, given, later, await, heard, ◌$◌, !, move, split, pick, learn, rewrite, use2, calls, told, unit2, No, pass, Entry, mine, Name, start, pass_owns}
use Rattle.seize_book.specs.Passes.{Longer}
use Rattle.seize_book.proofs.Meets.{meets}
use Rattle.seize_book.specs.contracts.book.pass.Pass.meet.{ended, clauses}
use Rattle.seize_book.specs.contracts.book.pass.Pass.meet.Key.{name as #self}
use Rattle.seize_book.proofs.book.pass.Pass.meet.Statement.{statement}
use Rattle.seize_book.proofs.book.pass.Pass.meet.Code as code

pub meet_spec : {M : Type 1} → statement M
meet_spec 𝓤 𝓛 𝓜 𝓡 wired =
    calls 𝓛 ended (pass 𝓛 0 tt 1 tt, (pass 𝓛 2 tt 3 tt, tt)) (clauses 𝓛 𝓜.mem 𝓡.returns) _ (λ κs. No 𝓛) 𝓜 𝓡 #self _ (code.unfolded 𝓤 𝓛.H 𝓜 𝓡 wired) (λ κs qs. refl) (λ κs a are. unit2 𝓛 (tt, tt) (tt, tt)) (λ κs qs a are gh is end.
    let p = a.0.now in let r = a.1.0.now in move ! (2 ∷ 1 ∷ 0 ∷ []) $ heard ! _ (λ asked. rewrite ! 0 (λ (z : Name). ‵ (pass_owns z r.id r.seen)) asked refl $ move ! (1 ∷ 0 ∷ []) $
    use2 𝓛 (later (some (λ (z : List Entry). given (Longer p.seen r.seen z × (mine (start p.name) p.id z ≡ mine (start p.name) p.id p.seen) × (mine (start p.name) r.id z ≡ mine (start p.name) r.id r.seen) × ¬ (p.id ≡ r.id)) (‵ (pass_owns p.name p.id z) ⊛ ‵ (pass_owns p.name r.id z))))) (meets 𝓛 p.name p.id r.id p.seen r.seen) $ await ! tt $ pick ! (λ log. learn ! (λ so. split ! $
    move ! (1 ∷ []) $ rewrite ! 0 (λ (z : Name). ‵ (pass_owns z r.id log)) (sym asked) refl $ move ! (1 ∷ 0 ∷ []) $
    end tt (log, (log, tt)) (told 𝓤 ((refl, refl, refl), (refl, refl, refl), so.1, subst (λ (m : Name). mine (start m) r.id log ≡ mine (start m) r.id r.seen) (sym asked) so.2, refl, so.0, so.3))))))
