-- `learn` tells the book what the pass has seen.
use Rattle.seize_book.proofs.CallKit.{[], ◌∷◌, refl, sym, ‵, ◌⊛◌, heard, ◌$◌, !, move, split, rewrite, use2, calls, told, unit2, No, held, pass, book_owns, Name, pass_owns}
use Rattle.seize_book.specs.contracts.book.seen.Seen as Seen
use Rattle.seize_book.proofs.Books.{learns}
use Rattle.seize_book.specs.contracts.book.seen.Seen.learn.{ended, clauses}
use Rattle.seize_book.specs.contracts.book.seen.Seen.learn.Key.{name as #self}
use Rattle.seize_book.proofs.book.seen.Seen.learn.Statement.{statement}
use Rattle.seize_book.proofs.book.seen.Seen.learn.Code as code

pub learn_spec : {M : Type 1} → statement M
learn_spec 𝓤 𝓛 𝓜 𝓡 wired =
    calls 𝓛 ended (held 𝓛 0 tt (λ κs. Seen.the_row) (λ κs. Seen.the_heap) (λ κs x vs. refl), (pass 𝓛 1 tt 2 tt, tt)) (clauses 𝓛 𝓜.mem 𝓡.returns) _ (λ κs. No 𝓛) 𝓜 𝓡 #self _ (code.unfolded 𝓤 𝓛.H 𝓜 𝓡 wired) (λ κs qs. refl) (λ κs a are. unit2 𝓛 (tt, tt) (tt, tt)) (λ κs qs a are gh is end.
    let b = a.0.now in let p = a.1.0.now in move ! (2 ∷ 1 ∷ []) $ heard ! _ (λ asked. rewrite ! 0 (λ (z : Name). ‵ (pass_owns z p.id p.seen)) (sym asked) refl $ move ! (1 ∷ 0 ∷ []) $
    use2 𝓛 (‵ (book_owns b.name p.seen) ⊛ ‵ (pass_owns b.name p.id p.seen)) (learns 𝓛 b.name p.id b.seen p.seen) $ split ! $
    move ! (1 ∷ []) $ rewrite ! 0 (λ (z : Name). ‵ (pass_owns z p.id p.seen)) asked refl $ move ! (1 ∷ 0 ∷ []) $
    end tt (record b { seen = p.seen }, (p.seen, tt)) (told 𝓤 (refl, refl, refl))))
