-- `glimpse` shows what is lent with the value whose key stands beside the word, for as long as that is borrowed.
use Rattle.seize_book.proofs.CallKit.{ℕ, [], ◌∷◌, refl, ‵, ◌⊛◌, heard, ◌$◌, !, move, keep, split, use1, calls, told, token1, Of, shown, unit, ShrRef, marked_made, loan_of, label_of, named, named_lft, Lft}
use Rattle.std.proofs.Common.{Some, drop as rest}
use Rattle.seize_book.specs.Peeks.{keys_show, sight_if}
use Rattle.seize_book.specs.Tokens.{leads}
use Rattle.seize_book.proofs.Peeks.{shows}
use Rattle.seize_words.specs.LinkSites.{MayGlimpse}
use Rattle.seize_words.specs.contracts.glimpse.Glimpse as Glimpse
use Rattle.seize_words.specs.contracts.link.still.StillWord as StillWord
use Rattle.seize_words.proofs.Stands.{shown as past_first}
use Rattle.seize_words.specs.contracts.link.still.StillWord.glimpse.{ended, clauses}
use Rattle.seize_words.specs.contracts.link.still.StillWord.glimpse.Key.{name as #self}
use Rattle.seize_words.proofs.link.still.StillWord.glimpse.Statement.{statement}
use Rattle.seize_words.proofs.link.still.StillWord.glimpse.Code as code

pub glimpse_spec : {M : Type 1} → statement M
glimpse_spec 𝓤 𝓛 𝓜 𝓡 wired =
    calls 𝓛 ended (shown 𝓛 0 tt (λ κs. StillWord.the_row) (λ κs. StillWord.the_lent) (λ κs x. refl), tt) (clauses 𝓛 𝓜.mem 𝓡.returns) _ (λ κs. Of 𝓛 (Glimpse.the_row (named_lft 1 0 tt κs)) (marked_made (ShrRef (named 0) κs.0 unit) 𝓛) (Glimpse.the_heap κs.0) (λ r. refl)) 𝓜 𝓡 #self _ (code.unfolded 𝓤 𝓛.H 𝓜 𝓡 wired) (λ κs qs. refl) (λ κs a are. token1 𝓛 (tt, (tt, tt)) (tt, tt) (tt, tt)) (λ κs qs a are gh is end.
    let κ : Lft = κs.0 in let d = a.0.now in let v : ℕ = label_of (rest 1 d.held) in move ! (2 ∷ []) $ heard ! (MayGlimpse d.held) (λ asked.
    use1 𝓛 (‵ (keys_show d.name (rest 1 d.held) κ)) (past_first 𝓛 d.name κ d.held) $
    use1 𝓛 (‵ (leads d.name v) ⊛ ‵ (sight_if (loan_of v) κ v)) (shows 𝓛 d.name κ (rest 1 d.held) asked.0) $ split ! $ keep ! (2 ∷ 1 ∷ []) $
    end (record { marker = record {}; value = Some v }) (tt, tt) (told 𝓤 refl)))
