-- `tell`: the pass learns what was seen.
use Rattle.seize_book.proofs.CallKit.{◌≡◌, List, [], ◌∷◌, refl, ‵, ◌⊛◌, some, given, later, await, heard, ◌$◌, !, move, keep, drop, split, fsplit, pick, learn, rewrite, use2, calls, told, unit2, No, pass, shown, beside, book_owns, mine, Entry, Name, pass_owns, start, named_lft}
use Rattle.seize_book.specs.Book.{IsLegalList}
use Rattle.seize_book.specs.Passes.{Longer}
use Rattle.seize_book.specs.Tokens.{IsSole}
use Rattle.seize_words.specs.contracts.lasting.Lasting as Lasting
use Rattle.seize_book.proofs.Learning.{hears}
use Rattle.seize_words.specs.contracts.lasting.Lasting.tell.{ended, clauses}
use Rattle.seize_words.specs.contracts.lasting.Lasting.tell.Key.{name as #self}
use Rattle.seize_words.proofs.lasting.Lasting.tell.Statement.{statement}
use Rattle.seize_words.proofs.lasting.Lasting.tell.Code as code

pub tell_spec : {M : Type 1} → statement M
tell_spec 𝓤 𝓛 𝓜 𝓡 wired =
    calls 𝓛 ended (beside 𝓛 1 tt (shown 𝓛 0 tt (λ κs. Lasting.the_row (named_lft 4 1 tt κs)) (λ κs. Lasting.the_lent κs.1.0) (λ κs x. refl)), (pass 𝓛 2 tt 3 tt, tt)) (clauses 𝓛 𝓜.mem 𝓡.returns) _ (λ κs. No 𝓛) 𝓜 𝓡 #self _ (code.unfolded 𝓤 𝓛.H 𝓜 𝓡 wired) (λ κs qs. refl) (λ κs a are. unit2 𝓛 (tt, tt) (tt, tt)) (λ κs qs a are gh is end.
    let l = a.0.now in let p = a.1.0.now in let n : Name = p.name in move ! (3 ∷ 0 ∷ []) $ heard ! (l.name ≡ n) (λ asked. fsplit ! $ drop ! $ rewrite ! 0 (λ (m : Name). ‵ (book_owns m l.seen)) asked refl $ move ! (2 ∷ 0 ∷ []) $
    use2 𝓛 (later (some (λ (z : List Entry). given (Longer p.seen l.seen z × (mine (start n) p.id z ≡ mine (start n) p.id p.seen) × (IsSole p.id → z ≡ p.seen) × IsLegalList (start n) z) (‵ (pass_owns n p.id z) ⊛ ‵ (book_owns n l.seen))))) (hears 𝓛 n p.id p.seen l.seen) $ await ! tt $ pick ! (λ z. learn ! (λ so. split ! $
    keep ! (2 ∷ 0 ∷ []) $ end tt (tt, (z, tt)) (told 𝓤 ((refl, refl, refl), so.1, so.0, so.2, so.3))))))
