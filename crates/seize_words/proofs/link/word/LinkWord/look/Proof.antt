-- `look` adds nothing, with no step: the keys of a word that stands still look as keys do.
use Rattle.seize_book.proofs.CallKit.{ℕ, List, [], ◌∷◌, refl, sym, ‵, ◌⊛◌, some, given, later, await, heard, ◌$◌, !, move, split, fsplit, fjoin, pick, learn, rewrite, use2, calls, told, unit2, No, whole, pass, Entry, Before, HeldKey, Name, keys_own, pass_owns, IsDistinct}
use Rattle.std.proofs.Common.{Option, Some}
use Rattle.seize_book.specs.Ledger.{with_list}
use Rattle.seize_words.specs.LinkSites.{KeyRow, keys_of_rows, rows_of, LinkSite, owns_by, site_in}
use Rattle.seize_words.specs.contracts.link.word.LinkWord as LinkWord
use Rattle.seize_book.proofs.Looks.{looks_now}
use Rattle.seize_words.proofs.LinkSites.{keys_back}
use Rattle.seize_words.specs.contracts.link.word.LinkWord.look.{ended, clauses}
use Rattle.seize_words.specs.contracts.link.word.LinkWord.look.Key.{name as #self}
use Rattle.seize_words.proofs.link.word.LinkWord.look.Statement.{statement}
use Rattle.seize_words.proofs.link.word.LinkWord.look.Code as code

pub look_spec : {M : Type 1} → statement M
look_spec 𝓤 𝓛 𝓜 𝓡 wired =
    calls 𝓛 ended (whole 𝓛 0 tt (λ κs. LinkWord.the_row), (pass 𝓛 1 tt 2 tt, tt)) (clauses 𝓛 𝓜.mem 𝓡.returns) _ (λ κs. No 𝓛) 𝓜 𝓡 #self _ (code.unfolded 𝓤 𝓛.H 𝓜 𝓡 wired) (λ κs qs. refl) (λ κs a are. unit2 𝓛 (tt, tt) (tt, tt)) (λ κs qs a are gh is end.
    let w : LinkSite = a.0.now in let r = a.1.0.now in move ! (2 ∷ 0 ∷ 1 ∷ []) $ heard ! _ (λ asked. fsplit ! $ move ! (1 ∷ []) $ rewrite ! 0 (λ (z : Option (ℕ × List KeyRow)). ‵ (owns_by (site_in w) z is.0)) asked.1 refl $
    let t : ℕ × List KeyRow = asked.0 in let held : List (HeldKey Entry) = keys_of_rows t.1 in let may = asked.2 in fsplit ! $ move ! (1 ∷ []) $ rewrite ! 0 (λ (z : Name). ‵ (keys_own z held)) may.0 refl $
    -- [the rights; the fields; the type; the pass]
    move ! (3 ∷ 0 ∷ []) $ use2 𝓛 (later (some (λ (log : List Entry). given (Before r.name r.id r.seen held log × IsDistinct 𝓛 r.name) (‵ (pass_owns r.name r.id log) ⊛ ‵ (keys_own r.name (with_list held log))))))
    (looks_now 𝓛 r.name r.id r.seen held may.1) $ await ! tt $ pick ! (λ log. learn ! (λ so. split ! $ let rows : List KeyRow = rows_of (with_list held log) in
    move ! (1 ∷ []) $ rewrite ! 0 (λ (z : Name). ‵ (keys_own z (with_list held log))) (sym may.0) refl $ rewrite ! 0 (λ (hs : List (HeldKey Entry)). ‵ (keys_own w.name hs)) (sym (keys_back (with_list held log))) refl $
    move ! (2 ∷ 0 ∷ []) $ fjoin ! $ move ! (2 ∷ 0 ∷ []) $ fjoin ! $
    end tt (record w { still = Some (t.0, rows) }, (log, tt)) (told 𝓤 (t, asked.1, rows, refl, ((refl, refl, refl), (refl, keys_back (with_list held log)), so.0, so.1)))))))
