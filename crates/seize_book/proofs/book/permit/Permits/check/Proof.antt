-- `check` reads the list.
use Rattle.seize_book.proofs.CallKit.{ℕ, ◌≡◌, [], ◌∷◌, refl, ‵, raw, ◌⊛◌, given, later, await, heard, ◌$◌, !, move, drop, split, learn, rewrite, use1, use2, yes, calls, told, unit2, No, shown, taken, beside, all_permitted, id⊢, fact, ftrue}
use mir.Syntax.{a_type, dcons, dnil}
use denote.Param.{param, bounded}
use Rattle.seize_book.specs.Permits.{AllAre}
use Rattle.seize_book.specs.contracts.book.permit.Permit as Permit
use Rattle.seize_book.specs.contracts.book.permit.Permits as Permits
use Rattle.seize_book.proofs.Permits.{checks_all}
use Rattle.seize_book.proofs.Fields.{permit_tells}
use Rattle.seize_book.specs.contracts.book.permit.Permits.check.{ended, clauses}
use Rattle.seize_book.specs.contracts.book.permit.Permits.check.Key.{name as #self}
use Rattle.seize_book.proofs.book.permit.Permits.check.Statement.{statement}
use Rattle.seize_book.proofs.book.permit.Permits.check.Code as code

pub check_spec : {M : Type 1} → statement M
check_spec 𝓤 𝓛 𝓜 𝓡 wired X L g dict met =
    let R = param 0 X in let inst = bounded (a_type ∷ []) (X, tt) (dcons dict dnil) in calls 𝓛 (ended X g dict) (beside 𝓛 1 tt (shown 𝓛 0 tt (λ κs. Permits.the_row R g) (λ κs. Permits.the_lent R g) (λ κs x. refl)), (taken 𝓛 yes (λ κs. Permit.the_row) (λ κs. Permit.the_heap) (λ κs x. refl) (λ κs. permit_tells) (λ κs x f. refl) (λ κs x. tt), tt)) (clauses X g dict 𝓛 𝓜.mem 𝓡.returns) _ (λ κs. No 𝓛) 𝓜 𝓡 (#self inst) _ (code.unfolded 𝓤 𝓛.H 𝓜 𝓡 wired (X, tt) dict) (λ κs qs. refl) (λ κs a are. unit2 𝓛 (tt, tt) (tt, (tt, tt))) (λ κs qs a are gh is end.
    let d = a.0.now in let p = a.1.0 in move ! (3 ∷ []) $ use1 𝓛 (raw (fact 𝓤 _) ⊛ raw (fact 𝓤 (p.list ≡ d.list))) (id⊢ 𝓤 _) $ split ! $ drop ! $ heard ! _ (λ asked.
    move ! (2 ∷ []) $ rewrite ! 0 (λ (γ : ℕ). ‵ (all_permitted γ p.codes)) asked refl $ move ! (1 ∷ 0 ∷ []) $
    use2 𝓛 (later (given (AllAre (g.holds d.store) p.codes) (‵ ftrue))) (checks_all 𝓛 (g.holds d.store) d.list p.codes) $ await ! tt $ learn ! (λ all. drop ! $
    end tt (tt, (tt, tt)) (told 𝓤 all))))
