-- Links that stand still: what they hold is what the state says, at the beginning and after an exchange.
use Rattle.std.proofs.Common.{◌≡◌, ℕ, zero, suc, ◌+◌, ◌==◌, ◌<◌, Bool, true, false, List, [], ◌∷◌, length, get_or, slice_set, Option, None, refl, sym, ap, subst, ◌∙◌, arith}
use Rattle.std.proofs.lemmas.Bool.{false≢true}
use Rattle.std.proofs.lemmas.List.{get_or-set_other, get_or-set_same}
use base.Stored.{Coded, Gv}
use Rattle.seize_machine.proofs.Facts.{eq_true}
use Rattle.seize_machine.specs.Machine.State as machine
use Rattle.seize_machine.specs.Machine.State.{are_distinct, linked_values, link_at as held_at}
use Rattle.seize_model.specs.Waiting.Calls.{model_link}
use Rattle.seize_model.specs.Waiting.State.{ModelState}
use Rattle.seize_book.proofs.Facts.{equal}
use Rattle.seize_book.specs.Homesteads.{state_seen}
use Rattle.seize_book.specs.Passes.{IsSamePass}
use Rattle.seize_book.specs.Tokens.{IsSole, Name}
use Rattle.seize_book.specs.declared.book.pass.Pass.{Pass}
use Rattle.seize_book.specs.declared.book.seen.Seen.{Seen}
use Rattle.seize_words.specs.Joined.{words_book}
use Rattle.seize_words.specs.Named.{link_count}
use Rattle.seize_words.specs.Rows.{AllStand, IsSameBut, StandsAt}
use Rattle.seize_words.specs.declared.blocks.Blocks.{Blocks}
use Rattle.seize_words.specs.declared.link.row.Links.{Links}
use Rattle.seize_words.specs.declared.words.Words.{Words}
use Rattle.seize_alone.proofs.Singles.{link_held}
use Rattle.seize_alone.specs.Events.{IsHeldAs}
use Rattle.seize_alone.specs.Holding.{Holds}
use Rattle.seize.specs.Alones.{IsAlone}
use Rattle.seize_parts.specs.Enders.{IsEnderIn}
use Rattle.seize.specs.Looks.{with_link}
use Rattle.seize_parts.specs.Placing.{ArePlaces}
use Rattle.seize.specs.Stillness.{LinksHold}
use Rattle.seize.specs.declared.alone.hands.Hands.{Hands}
use Rattle.seize_parts.specs.declared.alone.place.Place.{Place}
use Rattle.seize_parts.specs.declared.ender.Ender.{Ender}
use Rattle.seize_parts.specs.declared.numbers.Numbers.{Numbers}

-- what links hold by name, from link l on
abbrev pub names_from : machine.State → ℕ → ℕ → List (Option ℕ)
names_from ms l zero = []
names_from ms l (suc n) = held_at ms l ∷ names_from ms (l + 1) n

pub names_many : (ms : machine.State) (l n : ℕ) → length (names_from ms l n) ≡ n
names_many ms l zero = refl
names_many ms l (suc n) = ap suc (names_many ms (l + 1) n)

names_there : (ms : machine.State) (l n i : ℕ) → i < n → get_or (names_from ms l n) i None ≡ held_at ms (l + i)
names_there ms l zero i less = absurd (omega (arith, less))
names_there ms l (suc n) zero less = let same : l ≡ l + 0 = omega arith in ap (λ (k : ℕ). held_at ms k) same
names_there ms l (suc n) (suc i) less = let same : (l + 1) + i ≡ l + suc i = omega arith in names_there ms (l + 1) n i (omega (arith, less)) ∙ ap (λ (k : ℕ). held_at ms k) same

-- all of them, once they were put to rest
pub stand_first : {T : Type 0} (c : Coded T) (links : Links) (pass : Pass) (st : ModelState T ℕ) (names : List (ℕ × T)) (kinds : List (ℕ × ℕ)) (held : List (Option ℕ)) → AllStand links (state_seen pass) → Holds c.code st names kinds pass.name pass.seen
    → held ≡ names_from (state_seen pass) 0 (link_count links) → LinksHold c.code links held st.links
stand_first c links pass st names kinds held stand holds are l less =
    let is : held_at (state_seen pass) l ≡ get_or held l None = sym (ap (λ (os : List (Option ℕ)). get_or os l None) are ∙ names_there (state_seen pass) 0 (link_count links) l less ∙ zero_on l) in
    subst (λ (o : Option ℕ). StandsAt links l o × IsHeldAs c.code o (model_link st l)) is (stand l, link_held c st names kinds pass.name pass.seen l holds)
  where
    zero_on : (k : ℕ) → held_at (state_seen pass) (0 + k) ≡ held_at (state_seen pass) k
    zero_on k = let same : 0 + k ≡ k = omega arith in ap (λ (i : ℕ). held_at (state_seen pass) i) same

-- one was exchanged
module _ {T : Type 0} (code : T → Gv) (links links' : Links) (st : ModelState T ℕ) (names : List (Option ℕ)) (link : ℕ) (new : Option T) (held : Option ℕ) (same : IsSameBut link links links') (stands : StandsAt links' link held)
    (is : IsHeldAs code held (model_link (with_link st link new) link)) (below : link < length names) (are : LinksHold code links names st.links) where
  abbrev now : ModelState T ℕ
  now = with_link st link new

  abbrev Held : ℕ → Option ℕ → Type 0
  Held l o = StandsAt links' l o × IsHeldAs code o (model_link now l)

  at : (b : Bool) (l : ℕ) → (l == link) ≡ b → l < link_count links' → Held l (get_or (slice_set names link held) l None)
  at true l e less = subst (λ (k : ℕ). Held k (get_or (slice_set names link held) k None)) (sym (eq_true l link e)) (subst (Held link) (sym (get_or-set_same names link held None below)) (stands, is))
  at false l e less =
      let other : ¬ (l ≡ link) = λ is. false≢true (sym e ∙ equal l link is) in
      let was = are l (subst (λ (b : Seen). l < length b.name.links) same.0 less) in let o = get_or names l None in
      subst (Held l) (sym (get_or-set_other names link l held None other))
      (same.1 l o other was.0, subst (λ (x : Option T). IsHeldAs code o x) (sym (get_or-set_other st.links link l new None other)) was.1)

  pub stand_swapped : LinksHold code links' (slice_set names link held) now.links
  stand_swapped l less = at (l == link) l refl less

-- The invariant after an exchange.
pub alone_swapped : {T R : Type 0} {code : T → Gv} {words : Words T} {pass : Pass} {numbers : Numbers T} {places : List (Option (Place T))} {made : ℕ} {ender : Ender T R} {hands : Hands T} → IsAlone code words pass numbers places made ender hands
    → {pass' : Pass} → IsSamePass pass pass' → (words' : Words T) → words'.blocks ≡ words.blocks → words'.size ≡ words.size → (hands' : Hands T)
    → length hands'.state.slots ≡ length hands.state.slots → hands'.state.size ≡ hands.state.size → length hands'.state.links ≡ length hands.state.links → length hands'.held ≡ length hands.held → LinksHold code words'.links hands'.held hands'.state.links → ArePlaces (words_book words) hands'.state places
    → Holds code hands'.state hands'.names hands'.kinds pass'.name pass'.seen → IsAlone code words' pass' numbers places made ender hands'
alone_swapped {T} {R} {words = words} {numbers = numbers} {places = places} {ender = ender} a same words' blocks size hands' slots sized links named stand placed holds =
    let book : words_book words' ≡ words_book words = ap (λ (b : Blocks T). b.book.name) blocks in
    record {
      knows = record {
        for = (book ∙ a.knows.for.0 ∙ sym same.0, size ∙ a.knows.for.1 ∙ sym same.2);
        sole = subst IsSole (sym same.1) a.knows.sole;
        size = sized ∙ a.knows.size ∙ sym same.2;
        distinct = ap (λ (n : Name). are_distinct (linked_values n.links)) same.0 ∙ a.knows.distinct;
        holds = holds;
      };
      numbered = (a.numbered.0, a.numbered.1 ∙ sym book, a.numbered.2);
      ends = subst (λ (n : Name). IsEnderIn n ender) (sym book) a.ends;
      counted = a.counted ∙ sym slots;
      linked = links ∙ a.linked ∙ ap (λ (n : Name). length n.links) (sym book);
      named = named ∙ a.named ∙ ap (λ (n : Name). length n.links) (sym book);
      stand = stand;
      placed = subst (λ (n : Name). ArePlaces n hands'.state places) (sym book) placed;
    }
