-- `set_size` changes what the porter says of the size. The greatest size is raised: so the book had this one.
use Rattle.seize_book.proofs.CallKit.{ℕ, ◌≡◌, [], ◌∷◌, refl, sym, ‵, ◌⊛◌, later, await, heard, ◌$◌, !, move, drop, split, fsplit, fjoin, rewrite, use1, use2, calls, told, unit3, No, held, number, porter_has, Name}
use Rattle.std.proofs.Common.{max}
use Rattle.seize_book.specs.Bounds.{had_size, sets_size}
use Rattle.seize_book.specs.Tokens.{knows}
use Rattle.seize_book.specs.contracts.book.porter.Porter as Porter
use Rattle.seize_book.specs.contracts.book.sizes.Sizes as Sizes
use Rattle.seize_book.proofs.Sizing.{has_knows, raises}
use Rattle.seize_book.specs.contracts.book.porter.Porter.set_size.{ended, clauses}
use Rattle.seize_book.specs.contracts.book.porter.Porter.set_size.Key.{name as #self}
use Rattle.seize_book.proofs.book.porter.Porter.set_size.Statement.{statement}
use Rattle.seize_book.proofs.book.porter.Porter.set_size.Code as code

pub set_size_spec : {M : Type 1} → statement M
set_size_spec 𝓤 𝓛 𝓜 𝓡 wired =
    calls 𝓛 ended (held 𝓛 0 tt (λ κs. Porter.the_row) (λ κs. Porter.the_heap) (λ κs x vs. refl), (number 𝓛, (held 𝓛 1 tt (λ κs. Sizes.the_row) (λ κs. Sizes.the_heap) (λ κs x vs. refl), tt))) (clauses 𝓛 𝓜.mem 𝓡.returns) _ (λ κs. No 𝓛) 𝓜 𝓡 #self _ (code.unfolded 𝓤 𝓛.H 𝓜 𝓡 wired) (λ κs qs. refl) (λ κs a are. unit3 𝓛 (tt, tt) (tt, record { fits = are.1.0.1 }) (tt, tt)) (λ κs qs a are gh is end.
    let b = a.0.now in let size : ℕ = a.1.0 in let s = a.1.1.0.now in let γ : ℕ = b.name.gate.sizes in let most : ℕ = max s.most size in move ! (2 ∷ 0 ∷ []) $ heard ! (s.name ≡ b.name) (λ asked. fsplit ! $ drop ! $
    use1 𝓛 (‵ (porter_has b.name b.home b.seen) ⊛ ‵ (knows b.name)) (has_knows 𝓛 b.name b.home b.seen) $ split ! $
    -- [the porter; the book; the sizes]
    move ! (2 ∷ []) $ rewrite ! 0 (λ (z : Name). ‵ (sets_size z.gate.sizes s.most)) asked refl $ move ! (2 ∷ 0 ∷ []) $
    use2 𝓛 (later (‵ (sets_size γ most) ⊛ ‵ (had_size γ size))) (raises 𝓛 b.name s.most size) $ await ! tt $ split ! $
    rewrite ! 0 (λ (z : Name). ‵ (sets_size z.gate.sizes most)) (sym asked) refl $ move ! (1 ∷ 2 ∷ []) $ fjoin ! $
    end tt (record b { size = size }, (tt, (record s { most = most }, tt))) (told 𝓤 ((refl, refl, refl, refl), refl))))
