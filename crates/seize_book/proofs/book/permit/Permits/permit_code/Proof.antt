-- `permit_code` lets a code into the list.
use Rattle.seize_book.proofs.CallKit.{[], ◌∷◌, refl, ‵, raw, ◌⊛◌, later, await, heard, ◌$◌, !, move, drop, split3, fjoin, use1, nothing, calls, told, token1, Only, shown, beside, Gv, id⊢, fact}
use mir.Syntax.{a_type, dcons, dnil}
use denote.Param.{param, bounded}
use Rattle.seize_book.specs.Loans.{loan_number}
use Rattle.seize_book.specs.Permits.{permit}
use Rattle.seize_book.specs.contracts.book.permit.Permit as Permit
use Rattle.seize_book.specs.contracts.book.permit.Permits as Permits
use Rattle.seize_book.proofs.Permits.{gives}
use Rattle.seize_book.specs.contracts.book.permit.Permits.permit_code.{ended, clauses}
use Rattle.seize_book.specs.contracts.book.permit.Permits.permit_code.Key.{name as #self}
use Rattle.seize_book.proofs.book.permit.Permits.permit_code.Statement.{statement}
use Rattle.seize_book.proofs.book.permit.Permits.permit_code.Code as code

pub permit_code_spec : {M : Type 1} → statement M
permit_code_spec 𝓤 𝓛 𝓜 𝓡 wired X Y L LY g dict k kdict met kmet =
    let R = param 0 X in let inst = bounded (a_type ∷ a_type ∷ []) (X, (Y, tt)) (dcons dict (dcons kdict dnil)) in calls 𝓛 (ended X Y g dict k kdict) (beside 𝓛 2 tt (beside 𝓛 1 tt (shown 𝓛 0 tt (λ κs. Permits.the_row R g) (λ κs. Permits.the_lent R g) (λ κs x. refl))), tt) (clauses X Y g dict k kdict 𝓛 𝓜.mem 𝓡.returns) _ (λ κs. Only 𝓛 Permit.the_row Permit.the_heap (λ r. refl)) 𝓜 𝓡 (#self inst) _ (code.unfolded 𝓤 𝓛.H 𝓜 𝓡 wired (X, (Y, tt)) dict kdict) (λ κs qs. refl) (λ κs a are. token1 𝓛 (tt, (tt, tt)) (tt, tt) (tt, tt)) (λ κs qs a are gh is end.
    let d = a.0.now in let u : Gv = k.code in move ! (2 ∷ []) $ use1 𝓛 (raw (fact 𝓤 _) ⊛ raw (fact 𝓤 _) ⊛ raw (fact 𝓤 (g.holds d.store u))) (id⊢ 𝓤 _) $ split3 ! $ drop ! $ drop ! $ heard ! _ (λ asked.
    use1 𝓛 (later (‵ (permit d.list (loan_number u)))) (gives 𝓛 (g.holds d.store) d.list u asked) $ await ! tt $ nothing ! $ move ! (1 ∷ 0 ∷ []) $ fjoin ! $ move ! (1 ∷ 0 ∷ []) $
    end (record { marker = record {}; list = d.list; codes = loan_number u ∷ [] }) (tt, tt) (told 𝓤 (refl, refl))))
