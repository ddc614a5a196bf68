-- `rest` leaves the memory as it is: what stood beside the word, as its keys show, is what the keys own.
use Rattle.seize_book.proofs.CallKit.{ℕ, List, [], ◌∷◌, refl, sym, subst, ‵, heard, ◌$◌, !, move, drop, fsplit, fjoin, fpick, rewrite, calls, told, unit1, No, whole, keys_own, Entry, HeldKey}
use Rattle.std.proofs.Common.{Option, Some, subst, sym}
use Rattle.seize_words.specs.Atomic.{IsWordOf}
use Rattle.seize_words.specs.LinkSites.{KeyRow, LinkSite, owns_by, rows_of, site_in}
use Rattle.seize_words.specs.Words.{site_keys}
use Rattle.seize_words.specs.contracts.link.word.LinkWord as LinkWord
use Rattle.seize_words.proofs.LinkSites.{keys_back, not_still}
use Rattle.seize_words.specs.contracts.link.word.LinkWord.rest.{ended, clauses}
use Rattle.seize_words.specs.contracts.link.word.LinkWord.rest.Key.{name as #self}
use Rattle.seize_words.proofs.link.word.LinkWord.rest.Statement.{statement}
use Rattle.seize_words.proofs.link.word.LinkWord.rest.Code as code

pub rest_spec : {M : Type 1} → statement M
rest_spec 𝓤 𝓛 𝓜 𝓡 wired =
    calls 𝓛 ended (whole 𝓛 0 tt (λ κs. LinkWord.the_row), tt) (clauses 𝓛 𝓜.mem 𝓡.returns) _ (λ κs. No 𝓛) 𝓜 𝓡 #self _ (code.unfolded 𝓤 𝓛.H 𝓜 𝓡 wired) (λ κs qs. refl) (λ κs a are. unit1 𝓛 (tt, tt)) (λ κs qs a are gh is end.
    let w : LinkSite = a.0.now in move ! (1 ∷ []) $ heard ! _ (λ asked. fsplit ! $ move ! (1 ∷ []) $ rewrite ! 0 (λ (t : Option (ℕ × List KeyRow)). ‵ (owns_by (site_in w) t is.0)) (not_still w asked) refl $
    fsplit ! $ drop ! $ fpick ! (λ n. fsplit ! $ move ! (1 ∷ []) $ fpick ! (λ t. fsplit ! $ fpick ! (λ so. drop ! $
    -- [the keys; the word; its form]
    let held : List (HeldKey Entry) = site_keys (site_in w) t.0 t.1 in let rows : List KeyRow = rows_of held in
    rewrite ! 0 (λ (hs : List (HeldKey Entry)). ‵ (keys_own w.name hs)) (sym (keys_back held)) refl $ move ! (1 ∷ 0 ∷ []) $ fjoin ! $ move ! (1 ∷ 0 ∷ []) $ fjoin ! $
    end tt (record w { still = Some (n, rows) }, tt)
    (told 𝓤 ((n, rows), (refl, subst (λ (hs : List (HeldKey Entry)). IsWordOf (record { marker = record {}; name = w.name; held = hs }) n) (sym (keys_back held)) (refl, so.0, so.1), refl), refl)))))))
