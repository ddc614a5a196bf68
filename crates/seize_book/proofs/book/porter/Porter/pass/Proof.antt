-- `pass` takes a ticket out of the porter's invariant, lends it under the porter's lifetime, and lays the loan there.
use Rattle.seize_book.proofs.CallKit.{ℕ, List, [], ◌∷◌, refl, ‵, ◌⊛◌, some, given, later, await, heard, ◌$◌, !, move, split, fsplit, fjoin, pick, learn, rewrite, use2, calls, told, token1, Of, shown, Lft, Share, flft, named_lft, Entry, mark_made}
use Rattle.std.proofs.Common.{Bool}
use Rattle.seize_book.specs.Shared.{porter_shares}
use Rattle.seize_book.specs.Tokens.{lent_pass}
use Rattle.seize_book.specs.contracts.book.porter.Porter as Porter
use Rattle.seize_book.proofs.Shares.{IsGiven, gives_pass}
use Rattle.seize_book.specs.contracts.book.pass.Pass as Pass
use Rattle.seize_book.specs.contracts.book.porter.Porter.pass.{ended, clauses}
use Rattle.seize_book.specs.contracts.book.porter.Porter.pass.Key.{name as #self}
use Rattle.seize_book.proofs.book.porter.Porter.pass.Statement.{statement}
use Rattle.seize_book.proofs.book.porter.Porter.pass.Code as code

pub pass_spec : {M : Type 1} → statement M
pass_spec 𝓤 𝓛 𝓜 𝓡 wired =
    calls 𝓛 ended (shown 𝓛 0 tt (λ κs. Porter.the_row) (λ κs. Porter.the_lent) (λ κs x. refl), tt) (clauses 𝓛 𝓜.mem 𝓡.returns) _ (λ κs. Of 𝓛 (Pass.the_row (named_lft 1 0 tt κs)) (mark_made 𝓛 (named_lft 1 0 tt κs)) (Pass.the_heap κs.0) (λ r. refl)) 𝓜 𝓡 #self _ (code.unfolded 𝓤 𝓛.H 𝓜 𝓡 wired) (λ κs qs. refl) (λ κs a are. token1 𝓛 (tt, (tt, tt)) (tt, tt) (tt, tt)) (λ κs qs a are gh is end.
    let κ : Lft = κs.0 in let q : Share = qs.0 in let b = a.0.now in move ! (2 ∷ 0 ∷ 1 ∷ []) $ heard ! _ (λ asked. fsplit ! $ move ! (1 ∷ []) $ rewrite ! 0 (λ (h : Bool). ‵ (porter_shares b.name h b.seen κ)) asked refl $ move ! (0 ∷ 2 ∷ []) $
    use2 𝓛 (later (some (λ (t : ℕ × List Entry). given (IsGiven 𝓛 b.name b.seen 𝓜 𝓡 κ q t) (‵ (lent_pass b.name κ t.0 t.1) ⊛ ‵ (flft κ q))))) (gives_pass 𝓛 b.name b.seen 𝓜 𝓡 κ q) $ await ! tt $ pick ! (λ t. learn ! (λ so. split ! $
    move ! (2 ∷ 0 ∷ []) $ fjoin ! $ move ! (1 ∷ 0 ∷ []) $
    end (record { marker = record {}; name = b.name; id = t.0; size = b.size; seen = t.1 }) (tt, tt) (told 𝓤 (record { book = (refl, refl); new = so.1; others = so.0; goes_on = so.2 }))))))
