-- `stir` leaves the memory as it is: what the keys own stands beside the word.
use Rattle.seize_book.proofs.CallKit.{ℕ, List, [], ◌∷◌, refl, subst, ‵, heard, ◌$◌, !, move, fsplit, fjoin, fpick, rewrite, nothing, calls, told, unit1, No, whole, Entry, HeldKey, keys_own, ftrue}
use Rattle.std.proofs.Common.{Option, drop as rest, subst}
use denote.Laws.{Typed}
use Rattle.seize_book.specs.Private.{own_of}
use Rattle.seize_words.specs.LinkSites.{KeyRow, keys_of_rows, LinkSite, owns_by, shared_at, site_in}
use Rattle.seize_words.specs.Words.{Site, ShowsWord, AreOtherKeys, site_keys, word_knows, word_owns}
use Rattle.seize_words.specs.contracts.link.word.LinkWord as LinkWord
use Rattle.seize_words.specs.contracts.word.Word.TheInside as Inside
use base.Fml.{fsep}
use mir.Val.{Val}
use types.Kit.{fpack}
use Rattle.seize_words.specs.contracts.link.word.LinkWord.stir.{ended, clauses}
use Rattle.seize_words.specs.contracts.link.word.LinkWord.stir.Key.{name as #self}
use Rattle.seize_words.proofs.link.word.LinkWord.stir.Statement.{statement}
use Rattle.seize_words.proofs.link.word.LinkWord.stir.Code as code

pub stir_spec : {M : Type 1} → statement M
stir_spec 𝓤 𝓛 𝓜 𝓡 wired =
    calls 𝓛 ended (whole 𝓛 0 tt (λ κs. LinkWord.the_row), tt) (clauses 𝓛 𝓜.mem 𝓡.returns) _ (λ κs. No 𝓛) 𝓜 𝓡 #self _ (code.unfolded 𝓤 𝓛.H 𝓜 𝓡 wired) (λ κs qs. refl) (λ κs a are. unit1 𝓛 (tt, tt)) (λ κs qs a are gh is end.
    let w : LinkSite = a.0.now in let vs : List Val = is.0 in move ! (1 ∷ []) $ heard ! _ (λ asked. fsplit ! $ move ! (1 ∷ []) $ rewrite ! 0 (λ (t : Option (ℕ × List KeyRow)). ‵ (owns_by (site_in w) t vs)) asked.1.0 refl $
    let t : ℕ × List KeyRow = asked.0 in let held : List (HeldKey Entry) = keys_of_rows t.1 in let is = asked.1.1 in let same = asked.1.2 in let site : Site = site_in w in
    let since : List Entry = own_of held in let vs' : List (HeldKey Entry) = rest 1 held in
    fsplit ! $ move ! (1 ∷ []) $ rewrite ! 0 (λ (hs : List (HeldKey Entry)). ‵ (keys_own w.name hs)) is.0 refl $ rewrite ! 0 (λ (s : Site). ‵ (keys_own w.name (site_keys s since vs'))) same refl $
    nothing ! $ fpack ! (ShowsWord site t.0 since × AreOtherKeys site since vs') (λ _. ftrue) (subst (λ (s : Site). ShowsWord s t.0 since × AreOtherKeys s since vs') same (is.1, is.2)) $ move ! (0 ∷ 1 ∷ []) $ fjoin ! $
    fpack ! (List Entry × List (HeldKey Entry)) (word_knows site t.0) (since, vs') $
    move ! (1 ∷ 0 ∷ []) $ fjoin ! $ fpack ! ℕ (λ (m : ℕ). fsep (Inside.the_row.own_val (record { bits = m }) vs) (word_owns site m)) t.0 $
    move ! (1 ∷ []) $ fpick ! (λ typed. fpack ! (Typed LinkWord.the_row.mir vs) (λ _. ftrue) typed $ move ! (0 ∷ 1 ∷ []) $ fjoin ! $
    nothing ! $ fpack ! (Typed LinkWord.the_row.mir vs) (λ _. ftrue) typed $ move ! (0 ∷ 1 ∷ []) $ fjoin ! $
    end tt (shared_at site, tt) (told 𝓤 refl))))
