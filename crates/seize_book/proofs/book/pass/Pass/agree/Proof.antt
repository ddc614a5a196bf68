-- `agree` shows that a book of the pass's family is its book.
use Rattle.seize_book.proofs.CallKit.{◌≡◌, [], ◌∷◌, refl, ‵, given, heard, ◌$◌, !, move, learn, use2, calls, told, unit2, No, pass, shown, pass_owns}
use Rattle.seize_book.specs.contracts.book.seen.Seen as Seen
use Rattle.seize_book.proofs.Books.{pass_agrees}
use Rattle.seize_book.specs.contracts.book.pass.Pass.agree.{ended, clauses}
use Rattle.seize_book.specs.contracts.book.pass.Pass.agree.Key.{name as #self}
use Rattle.seize_book.proofs.book.pass.Pass.agree.Statement.{statement}
use Rattle.seize_book.proofs.book.pass.Pass.agree.Code as code

pub agree_spec : {M : Type 1} → statement M
agree_spec 𝓤 𝓛 𝓜 𝓡 wired =
    calls 𝓛 ended (pass 𝓛 0 tt 1 tt, (shown 𝓛 2 tt (λ κs. Seen.the_row) (λ κs. Seen.the_lent) (λ κs x. refl), tt)) (clauses 𝓛 𝓜.mem 𝓡.returns) _ (λ κs. No 𝓛) 𝓜 𝓡 #self _ (code.unfolded 𝓤 𝓛.H 𝓜 𝓡 wired) (λ κs qs. refl) (λ κs a are. unit2 𝓛 (tt, tt) (tt, tt)) (λ κs qs a are gh is end.
    let b = a.0.now in let k = a.1.0.now in move ! (3 ∷ []) $ heard ! _ (λ asked.
    use2 𝓛 (given (k.name ≡ b.name) (‵ (pass_owns b.name b.id b.seen))) (pass_agrees 𝓛 b.name b.id b.seen k.name k.seen asked) $ learn ! (λ same.
    end tt (b.seen, (tt, tt)) (told 𝓤 (refl, same)))))
