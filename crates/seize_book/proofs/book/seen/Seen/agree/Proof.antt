-- `agree` shows that two books of one family are one.
use Rattle.seize_book.proofs.CallKit.{◌≡◌, [], ◌∷◌, refl, ‵, given, heard, ◌$◌, !, move, drop, learn, use2, calls, told, unit2, No, shown, ftrue}
use Rattle.seize_book.specs.contracts.book.seen.Seen as Seen
use Rattle.seize_book.proofs.Books.{books_agree}
use Rattle.seize_book.specs.contracts.book.seen.Seen.agree.{ended, clauses}
use Rattle.seize_book.specs.contracts.book.seen.Seen.agree.Key.{name as #self}
use Rattle.seize_book.proofs.book.seen.Seen.agree.Statement.{statement}
use Rattle.seize_book.proofs.book.seen.Seen.agree.Code as code

pub agree_spec : {M : Type 1} → statement M
agree_spec 𝓤 𝓛 𝓜 𝓡 wired =
    calls 𝓛 ended (shown 𝓛 0 tt (λ κs. Seen.the_row) (λ κs. Seen.the_lent) (λ κs x. refl), (shown 𝓛 1 tt (λ κs. Seen.the_row) (λ κs. Seen.the_lent) (λ κs x. refl), tt)) (clauses 𝓛 𝓜.mem 𝓡.returns) _ (λ κs. No 𝓛) 𝓜 𝓡 #self _ (code.unfolded 𝓤 𝓛.H 𝓜 𝓡 wired) (λ κs qs. refl) (λ κs a are. unit2 𝓛 (tt, tt) (tt, tt)) (λ κs qs a are gh is end.
    let b = a.0.now in let k = a.1.0.now in move ! (4 ∷ 0 ∷ 2 ∷ []) $ heard ! _ (λ asked. use2 𝓛 (given (b.name ≡ k.name) (‵ ftrue)) (books_agree 𝓛 b.name b.seen k.name k.seen asked) $ learn ! (λ same. drop ! $
    end tt (tt, (tt, tt)) (told 𝓤 same))))
