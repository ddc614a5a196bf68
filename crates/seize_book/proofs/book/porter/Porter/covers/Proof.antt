-- `covers` does nothing: at home the porter has the whole list.
use Rattle.seize_book.proofs.CallKit.{[], ◌∷◌, refl, sym, ‵, ◌⊛◌, given, later, await, heard, ◌$◌, !, move, keep, split, fsplit, fjoin, learn, rewrite, use2, calls, told, unit2, No, held, shown, book_owns, porter_has, Name, porter_owns}
use Rattle.std.proofs.Common.{Bool, true}
use mathlib.Core.List.{IsPrefix}
use Rattle.seize_book.specs.contracts.book.porter.Porter as Porter
use Rattle.seize_book.specs.contracts.book.seen.Seen as Seen
use Rattle.seize_book.proofs.Learning.{covered}
use Rattle.seize_book.specs.contracts.book.porter.Porter.covers.{ended, clauses}
use Rattle.seize_book.specs.contracts.book.porter.Porter.covers.Key.{name as #self}
use Rattle.seize_book.proofs.book.porter.Porter.covers.Statement.{statement}
use Rattle.seize_book.proofs.book.porter.Porter.covers.Code as code

pub covers_spec : {M : Type 1} → statement M
covers_spec 𝓤 𝓛 𝓜 𝓡 wired =
    calls 𝓛 ended (held 𝓛 0 tt (λ κs. Porter.the_row) (λ κs. Porter.the_heap) (λ κs x vs. refl), (shown 𝓛 1 tt (λ κs. Seen.the_row) (λ κs. Seen.the_lent) (λ κs x. refl), tt)) (clauses 𝓛 𝓜.mem 𝓡.returns) _ (λ κs. No 𝓛) 𝓜 𝓡 #self _ (code.unfolded 𝓤 𝓛.H 𝓜 𝓡 wired) (λ κs qs. refl) (λ κs a are. unit2 𝓛 (tt, tt) (tt, tt)) (λ κs qs a are gh is end.
    let b = a.0.now in let k = a.1.0.now in move ! (3 ∷ []) $ heard ! _ (λ asked. fsplit ! $ move ! (1 ∷ []) $ rewrite ! 0 (λ (h : Bool). ‵ (porter_has b.name h b.seen)) asked.0 refl $
    move ! (2 ∷ []) $ rewrite ! 0 (λ (z : Name). ‵ (book_owns z k.seen)) asked.1 refl $ move ! (1 ∷ 0 ∷ []) $
    use2 𝓛 (later (given (IsPrefix k.seen b.seen) (‵ (porter_owns b.name true 0 b.seen) ⊛ ‵ (book_owns b.name k.seen)))) (covered 𝓛 b.name b.seen k.seen) $ await ! tt $ learn ! (λ so. split ! $
    rewrite ! 0 (λ (h : Bool). ‵ (porter_has b.name h b.seen)) (sym asked.0) refl $ move ! (2 ∷ 0 ∷ []) $ fjoin ! $ keep ! (0 ∷ 2 ∷ []) $ end tt (b, (tt, tt)) (told 𝓤 (refl, so)))))
