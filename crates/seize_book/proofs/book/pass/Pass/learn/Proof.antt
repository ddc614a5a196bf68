-- `learn` has the pass see what the book has.
use Rattle.seize_book.proofs.CallKit.{◌≡◌, List, [], ◌∷◌, refl, ‵, ◌⊛◌, some, given, later, await, heard, ◌$◌, !, move, keep, split, pick, learn, rewrite, use2, calls, told, unit2, No, pass, shown, book_owns, mine, Entry, Name, pass_owns, start}
use Rattle.seize_book.specs.Book.{IsLegalList}
use Rattle.seize_book.specs.Passes.{Longer}
use Rattle.seize_book.specs.Tokens.{IsSole}
use Rattle.seize_book.specs.contracts.book.seen.Seen as Seen
use Rattle.seize_book.proofs.Learning.{hears}
use Rattle.seize_book.specs.contracts.book.pass.Pass.learn.{ended, clauses}
use Rattle.seize_book.specs.contracts.book.pass.Pass.learn.Key.{name as #self}
use Rattle.seize_book.proofs.book.pass.Pass.learn.Statement.{statement}
use Rattle.seize_book.proofs.book.pass.Pass.learn.Code as code

pub learn_spec : {M : Type 1} → statement M
learn_spec 𝓤 𝓛 𝓜 𝓡 wired =
    calls 𝓛 ended (pass 𝓛 0 tt 1 tt, (shown 𝓛 2 tt (λ κs. Seen.the_row) (λ κs. Seen.the_lent) (λ κs x. refl), tt)) (clauses 𝓛 𝓜.mem 𝓡.returns) _ (λ κs. No 𝓛) 𝓜 𝓡 #self _ (code.unfolded 𝓤 𝓛.H 𝓜 𝓡 wired) (λ κs qs. refl) (λ κs a are. unit2 𝓛 (tt, tt) (tt, tt)) (λ κs qs a are gh is end.
    let b = a.0.now in let k = a.1.0.now in move ! (3 ∷ 1 ∷ 0 ∷ 2 ∷ []) $ heard ! _ (λ asked. rewrite ! 0 (λ (z : Name). ‵ (book_owns z k.seen)) asked refl $ move ! (1 ∷ 0 ∷ []) $
    use2 𝓛 (later (some (λ (z : List Entry). given (Longer b.seen k.seen z × (mine (start b.name) b.id z ≡ mine (start b.name) b.id b.seen) × (IsSole b.id → z ≡ b.seen) × IsLegalList (start b.name) z) (‵ (pass_owns b.name b.id z) ⊛ ‵ (book_owns b.name k.seen))))) (hears 𝓛 b.name b.id b.seen k.seen) $ await ! tt $ pick ! (λ z. learn ! (λ so. split ! $
    keep ! (0 ∷ 2 ∷ []) $ end tt (z, (tt, tt)) (told 𝓤 ((refl, refl, refl), so.1, so.0, so.2, so.3))))))
