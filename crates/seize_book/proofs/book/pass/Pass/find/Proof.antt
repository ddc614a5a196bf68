-- `find` looks at the list with what the token says.
use Rattle.seize_book.proofs.CallKit.{◌≡◌, List, [], ◌∷◌, refl, ‵, some, given, later, await, heard, ◌$◌, !, move, pick, learn, use2, calls, told, unit2, No, pass, shown, Entry, Before, pass_owns, looked, IsDistinct}
use Rattle.seize_store.specs.contracts.row_token.RowToken as RowToken
use Rattle.seize_book.proofs.Looks.{SeesHomes, finds}
use Rattle.seize_book.specs.contracts.book.pass.Pass.find.{ended, clauses}
use Rattle.seize_book.specs.contracts.book.pass.Pass.find.Key.{name as #self}
use Rattle.seize_book.proofs.book.pass.Pass.find.Statement.{statement}
use Rattle.seize_book.proofs.book.pass.Pass.find.Code as code

pub find_spec : {M : Type 1} → statement M
find_spec 𝓤 𝓛 𝓜 𝓡 wired =
    calls 𝓛 ended (pass 𝓛 0 tt 1 tt, (shown 𝓛 2 tt (λ κs. RowToken.the_row) (λ κs. RowToken.the_lent) (λ κs x. refl), tt)) (clauses 𝓛 𝓜.mem 𝓡.returns) _ (λ κs. No 𝓛) 𝓜 𝓡 #self _ (code.unfolded 𝓤 𝓛.H 𝓜 𝓡 wired) (λ κs qs. refl) (λ κs a are. unit2 𝓛 (tt, tt) (tt, tt)) (λ κs qs a are gh is end.
    let b = a.0.now in let k = a.1.0.now in move ! (3 ∷ []) $ heard ! (b.name.store ≡ k.store) (λ asked.
    use2 𝓛 (later (some (λ (log : List Entry). given (Before b.name b.id b.seen [] log × SeesHomes 𝓛 b.name b.id k.row k.chunks log × IsDistinct 𝓛 b.name) (‵ (pass_owns b.name b.id log)))))
    (finds 𝓛 b.name b.id b.seen k.store k.row k.chunks k.made asked) $ await ! tt $ pick ! (λ log. learn ! (λ so.
    end tt (log, (tt, tt)) (told 𝓤 (looked b.name b.id b.seen log so.0 so.2, so.1))))))
