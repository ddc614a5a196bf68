-- What the keys beside a link that stands still show and say of the value in it.
use Rattle.std.proofs.Common.{◌≡◌, ℕ, true, List, [], ◌∷◌, Option, Some, None, IfSome, is_some, refl, sym, ap, subst, ◌∙◌, drop as rest}
use seplogic.Ra.Ura.{Ura}
use base.Fml.{Lft}
use base.Logic.{ent}
use types.Kit.{‵, ◌$◌, ◌∵◌, !, qed, drop, fsplit, done}
use types.Logic.{Logic, sem}
use Rattle.seize_machine.specs.Machine.State.{are_distinct, link_at, linked_values}
use Rattle.seize_machine.proofs.Facts.{linked_named}
use Rattle.seize_book.specs.Adding.{LooksWithKeys}
use Rattle.seize_book.specs.Blocks.{link_word}
use Rattle.seize_book.specs.Book.{after, links}
use Rattle.seize_book.specs.Entry.{Entry}
use Rattle.seize_book.specs.Fair.{Before}
use Rattle.seize_book.specs.Homesteads.{state_seen}
use Rattle.seize_book.specs.Ledger.{HeldKey, with_list}
use Rattle.seize_book.specs.Loans.{CarriesOne}
use Rattle.seize_book.specs.Peeks.{keys_show}
use Rattle.seize_book.specs.Private.{own_of}
use Rattle.seize_book.specs.Tokens.{IsSole, Name, start}
use Rattle.seize_book.specs.declared.book.keys.Keys.{Keys}
use Rattle.seize_book.specs.declared.book.pass.Pass.{Pass}
use Rattle.seize_book.proofs.Facts.{reached_after}
use Rattle.seize_words.specs.Atomic.{IsWordOf, site_of}
use Rattle.seize_words.specs.LinkSites.{KeyRow, keys_of_rows, LinkSite, LooksStill, StandsAs, StandsWith, keys_of, site_in}
use Rattle.seize_words.specs.Links.{at_link, value_in}
use Rattle.seize_book.specs.Lending.{IsRowAt}
use Rattle.seize_store.specs.declared.row_token.RowToken.{RowToken}
use Rattle.seize_words.specs.Stands.{LeadsToBlock}
use Rattle.seize_words.specs.declared.glimpse.Glimpse.{Glimpse}
use Rattle.seize_words.specs.Words.{AreOtherKeys, IsKeyOf, ShowsWord, Site, site_keys}
use Rattle.seize_words.proofs.Exchanged.{is_at, value_of}
use Rattle.seize_words.proofs.Links.{key_later}

-- what the keys after the first show
pub shown : {M : Type 1} {𝓤 : Ura M} (𝓛 : Logic 𝓤) (n : Name) (κ : Lft) (held : List (HeldKey Entry)) → ent 𝓤 (sem 𝓛 (keys_show n held κ)) (sem 𝓛 (keys_show n (rest 1 held) κ))
shown 𝓛 n κ [] = qed 𝓛 (‵ (keys_show n [] κ) ∷ []) ∵ done !
shown 𝓛 n κ (h ∷ held) = qed 𝓛 (‵ (keys_show n (h ∷ held) κ) ∷ []) ∵ fsplit ! $ drop ! $ done !

abbrev by_keys : Name → List (HeldKey Entry) → Keys
by_keys n held = record { marker = record {}; name = n; held = held }

-- Once its keys have looked at the list, they know what the list says.
module _ (n : Name) (l : ℕ) (own : List Entry) (vs : List (HeldKey Entry)) (bits id : ℕ) (seen log : List Entry) (distinct : are_distinct (linked_values n.links) ≡ true) (before : Before n id seen (site_keys (at_link n l) own vs) log) where
  abbrev held : Option ℕ
  held = link_at (after (start n) log) l

  same : held ≡ link_at (after (start n) own) l
  same = sym before.kept.0.1

  key_now : IsKeyOf (link_at (after (start n) own) l) vs → IsKeyOf held (with_list vs log)
  key_now is = key_later held vs log (subst (λ (o : Option ℕ). IsKeyOf o vs) (sym same) is)

  word_now : bits ≡ link_word (link_at (after (start n) own) l) → IsKeyOf (link_at (after (start n) own) l) vs → IsWordOf (by_keys n (site_keys (at_link n l) log (with_list vs log))) bits
  word_now shows is = (refl, shows ∙ ap link_word (sym same), key_now is)

  held_now : IsKeyOf (link_at (after (start n) own) l) vs → value_in (with_list vs log) ≡ held
  held_now is = value_of held vs log (subst (λ (o : Option ℕ). IsKeyOf o vs) (sym same) is)

  lent_now : IfSome held CarriesOne
  lent_now = go held refl
    where
      go : (o : Option ℕ) → held ≡ o → IfSome o CarriesOne
      go None is = tt
      go (Some v) is = before.lent v (linked_named (after (start n) log) (reached_after n log distinct before.legal) l v is).0

pub record Rested (w w' : LinkSite) (pass pass' : Pass) : Type 0 where
  pub same : (pass' ≡ pass) × (site_in w' ≡ site_in w)
  pub keys : ℕ × List KeyRow
  pub stands : StandsWith w' keys
  pub holds : value_in (rest 1 (keys_of_rows keys.1)) ≡ link_at (state_seen pass) w.number
  pub lent : IfSome (link_at (state_seen pass) w.number) CarriesOne

abbrev link_site : Site → ℕ × List KeyRow → LinkSite
link_site site t = record { name = site.name; kind = site.kind; number = site.number; still = Some t }

-- a word that threads shared stands still, and its keys have looked
pub rested : (w mid w' : LinkSite) (pass pass' : Pass) → w.kind ≡ links → w.name ≡ pass.name → IsSole pass.id → StandsAs w mid → LooksStill mid pass w' pass' → Rested w w' pass pass'
rested w mid w' pass pass' kind book sole stood looks =
    let n : Name = pass.name in let l : ℕ = w.number in let log : List Entry = pass'.seen in let t = stood.0 in let is = stood.1 in let word = is.1 in
    let had : List (HeldKey Entry) = keys_of_rows t.1 in let own : List Entry = own_of had in let vs : List (HeldKey Entry) = rest 1 had in
    let e : t ≡ looks.0 = one (sym is.0 ∙ looks.1) in
    let told = subst (λ (x : ℕ × List KeyRow). LooksWithKeys (keys_of mid.name x.1) pass (keys_of mid.name looks.2) pass') (sym e) looks.4 in
    let its : site_in w ≡ at_link n l = is_at (site_in w) n book kind in let at : site_of (keys_of mid.name t.1) ≡ at_link n l = is.2 ∙ stood.2 ∙ its in
    let keys_are : had ≡ site_keys (at_link n l) own vs = word.0 ∙ ap (λ (s : Site). site_keys s own vs) at in
    let shows = subst (λ (s : Site). ShowsWord s t.0 own) at word.1 in let key = subst (λ (s : Site). AreOtherKeys s own vs) at word.2 in
    let before = subst (λ (hs : List (HeldKey Entry)). Before n pass.id pass.seen hs log) keys_are told.2 in
    let now : List (HeldKey Entry) = site_keys (at_link n l) log (with_list vs log) in
    let stays : keys_of_rows looks.2 ≡ now = told.1.1 ∙ ap (λ (hs : List (HeldKey Entry)). with_list hs log) keys_are in
    let keys : ℕ × List KeyRow = (t.0, looks.2) in
    let is_now : w' ≡ link_site (at_link n l) keys = looks.3 ∙ ap (λ (q : Site × ℕ). link_site q.0 (q.1, looks.2)) (λ j. ((stood.2 ∙ its) j, (sym e j).0)) in
    let seen : log ≡ pass.seen = before.alone sole in let held = ap (λ (x : List Entry). link_at (after (start n) x) l) seen in
    let word' = subst (λ (hs : List (HeldKey Entry)). IsWordOf (by_keys n hs) t.0) (sym stays) (word_now n l own vs t.0 pass.id pass.seen log told.3 before shows key) in
    record {
      same = (λ j. record { marker = record {}; name = told.0.0 j; id = told.0.1 j; size = told.0.2 j; seen = seen j }, ap site_in is_now ∙ sym its);
      keys = keys;
      stands = subst (λ (x : LinkSite). StandsWith x keys) (sym is_now) (refl, word', ap (λ (hs : List (HeldKey Entry)). site_of (by_keys n hs)) stays);
      holds = ap (λ (hs : List (HeldKey Entry)). value_in (rest 1 hs)) stays ∙ held_now n l own vs t.0 pass.id pass.seen log told.3 before key ∙ held;
      lent = subst (λ (o : Option ℕ). IfSome o CarriesOne) held (lent_now n l own vs t.0 pass.id pass.seen log told.3 before);
    }
  where
    one : {A : Type 0} {a b : A} → Some a ≡ Some b → a ≡ b
    one e = cc

-- What a glimpse of it leads to.
pub leads : (n m : Name) (held : Option ℕ) (word : ℕ) (row : RowToken) (glimpse : Glimpse) → n ≡ m → is_some held ≡ true → LeadsToBlock n held word row glimpse
    → (v : ℕ) × (held ≡ Some v) × (glimpse.value ≡ Some v) × IsRowAt m v row × CarriesOne v × (word ≡ link_word (Some v))
leads n m (Some v) word row glimpse same some to = (v, refl, to.1, subst (λ (k : Name). IsRowAt k v row) same to.2.0, to.2.1, to.0)
leads n m None word row glimpse same some to = absurd (cc)
