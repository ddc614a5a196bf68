-- `sight` tells what is lent with the value, for as long as the keys are borrowed.
use Rattle.seize_book.proofs.CallKit.{ℕ, [], ◌∷◌, refl, ‵, ◌⊛◌, some, given, heard, ◌$◌, !, move, drop, split, pick, learn, use1, calls, told, token1, Of, shown, Gv, unit, ShrRef, named_lft, Carries, loan_of, label_of, Lft, named, marked_made}
use Rattle.seize_content.specs.Contents.{sight_owns}
use Rattle.seize_content.specs.contracts.loan.Sight as Sight
use Rattle.seize_book.specs.Peeking.{MaySee}
use Rattle.seize_book.specs.Peeks.{sight_if}
use Rattle.seize_book.specs.Tokens.{leads}
use Rattle.seize_book.specs.contracts.book.keys.Keys as Keys
use Rattle.seize_book.proofs.Peeks.{shows, sights}
use Rattle.seize_book.specs.contracts.book.keys.Keys.sight.{ended, clauses}
use Rattle.seize_book.specs.contracts.book.keys.Keys.sight.Key.{name as #self}
use Rattle.seize_book.proofs.book.keys.Keys.sight.Statement.{statement}
use Rattle.seize_book.proofs.book.keys.Keys.sight.Code as code

pub sight_spec : {M : Type 1} → statement M
sight_spec 𝓤 𝓛 𝓜 𝓡 wired =
    calls 𝓛 ended (shown 𝓛 0 tt (λ κs. Keys.the_row) (λ κs. Keys.the_lent) (λ κs x. refl), tt) (clauses 𝓛 𝓜.mem 𝓡.returns) _ (λ κs. let mark = ShrRef (named 0) κs.0 unit in Of 𝓛 (Sight.the_row (named_lft 1 0 tt κs)) (marked_made mark 𝓛) (Sight.the_heap κs.0) (λ r. refl)) 𝓜 𝓡 #self _ (code.unfolded 𝓤 𝓛.H 𝓜 𝓡 wired) (λ κs qs. refl) (λ κs a are. token1 𝓛 (tt, (tt, tt)) (tt, tt) (tt, tt)) (λ κs qs a are gh is end.
    let κ : Lft = κs.0 in let d = a.0.now in let v : ℕ = label_of d.held in move ! (2 ∷ []) $ heard ! (MaySee d) (λ asked.
    use1 𝓛 (‵ (leads d.name v) ⊛ ‵ (sight_if (loan_of v) κ v)) (shows 𝓛 d.name κ d.held asked.0) $ split ! $ drop ! $
    use1 𝓛 (some (λ (t : ℕ × (ℕ × Gv)). given (Carries v t.0 t.1.1) (‵ (sight_owns κ t.0 t.1.0 t.1.1)))) (sights 𝓛 κ v asked.1) $ pick ! (λ t. learn ! (λ its. move ! (1 ∷ 0 ∷ []) $
    end (record { marker = record {}; name = t.0; life = t.1.0; value = t.1.1 }) (tt, tt) (told 𝓤 its)))))
