-- What is known after a step on a link's word.
use Rattle.std.proofs.Common.{◌≡◌, ℕ, Bool, true, false, ◌&&◌, ◌==◌, List, [], ◌∷◌, ◌++◌, Option, Some, None, refl, sym, ◌∙◌, ap, subst, ◌⊎◌, inl, inr}
use Rattle.std.specs.Prelude.{option_to_list}
use Rattle.seize_machine.specs.Machine.State.{State, has, link_at}
use Rattle.seize_machine.specs.Machine.Event.{Event, ExchangeLink, ReadLink}
use Rattle.seize_machine.specs.Machine.Next.{is_stored, next}
use Rattle.seize_machine.specs.declared.machine.event.Answer.{Answer}
use Rattle.seize_machine.specs.declared.machine.event.Answer.TheVariants.{Link as Held_}
use Rattle.seize_machine.specs.declared.machine.event.Exchange.{Exchange}
use Rattle.seize_machine.proofs.Facts.{Step, is_true, linked_named, named_grows, not_true, step_of, swapped}
use Rattle.seize_words.specs.Atomic.{TakesStep as Took, entries}
use Rattle.seize_book.specs.Blocks.{link_word}
use Rattle.seize_book.specs.Book.{kind_of, IsLegalList, after, blocks, links, rules}
use Rattle.seize_book.specs.Entry.{Entry}
use Rattle.seize_book.specs.Homes.{IsVacant, home_of}
use Rattle.seize_book.specs.Ledger.{HeldKey, HoldersKnow, with_list}
use Rattle.seize_words.specs.LinkWords.{ActsOnLink, IsLinkFor, held_before, link_number}
use Rattle.seize_words.specs.Links.{IsNewIn, at_link, is_at_most_one, value_in}
use Rattle.seize_book.specs.Others.{state_of}
use Rattle.seize_book.specs.Private.{own_of}
use Rattle.seize_words.specs.Stepping.{HasStepped, held_then}
use Rattle.seize_book.specs.Tokens.{Name, start}
use Rattle.seize_words.specs.Words.{IsKeyOf, Site}
use Rattle.seize_words.specs.declared.activation.Activation.{Activation}
use Rattle.seize_book.specs.declared.book.keys.Keys.{Keys}
use Rattle.seize_book.specs.declared.book.pass.Pass.{Pass}
use Rattle.seize_words.specs.declared.link.Link.{Link}
use Rattle.seize_words.proofs.Exchanges.{within}
use Rattle.seize_words.proofs.Links.{kept_right, key_later, same, still_new, still_vacant}
use Rattle.seize_book.proofs.Facts.{equal, reached_after, has_last}

-- the word of a link, named by the pass's book
pub is_at : (word : Site) (n : Name) → word.name ≡ n → word.kind ≡ links → word ≡ at_link n word.number
is_at word n e k = ap (λ (t : Name × ℕ). record { name = t.0; kind = t.1; number = word.number }) (λ j. (e j, k j))

pub value_of : (o : Option ℕ) (vs : List (HeldKey Entry)) (log : List Entry) → IsKeyOf o vs → value_in (with_list vs log) ≡ o
value_of None vs log is = ap (λ (hs : List (HeldKey Entry)). value_in (with_list hs log)) is
value_of (Some v) [] log is = absurd (let x : false ≡ true = is.0 in cc)
value_of (Some v) (x ∷ y ∷ vs) log is = absurd (let x : false ≡ true = is.0 in cc)
value_of (Some v) (x ∷ []) log is = ap Some is.2

one_of : (o : Option ℕ) (vs : List (HeldKey Entry)) (log : List Entry) → IsKeyOf o vs → is_at_most_one (with_list vs log) ≡ true
one_of None vs log is = ap (λ (hs : List (HeldKey Entry)). is_at_most_one (with_list hs log)) is
one_of (Some v) [] log is = absurd (let x : false ≡ true = is.0 in cc)
one_of (Some v) (x ∷ y ∷ vs) log is = absurd (let x : false ≡ true = is.0 in cc)
one_of (Some v) (x ∷ []) log is =
    ap (λ (b : Bool). (x.kind == blocks) && b) (equal x.key (home_of x.label) (is.1 ∙ ap home_of (sym is.2))) ∙ ap (λ (b : Bool). b && true) is.0

same_value : (vs : List (HeldKey Entry)) (log : List Entry) → value_in (with_list vs log) ≡ value_in vs
same_value [] log = refl
same_value (x ∷ vs) log = refl

one_later : (vs : List (HeldKey Entry)) (log : List Entry) → is_at_most_one vs ≡ true → is_at_most_one (with_list vs log) ≡ true
one_later [] log h = refl
one_later (x ∷ []) log h = h
one_later (x ∷ y ∷ vs) log h = absurd (cc)

-- a value that comes out
out_loose : (size : ℕ) (st : State) (s l : ℕ) (exchange : Exchange) (d : State × Answer) (w : ℕ) → Step size st (ExchangeLink s l exchange) d → is_stored (link_at st l) exchange ≡ true → link_at st l ≡ Some w → has w st.named ≡ true
    → (has w (d.0).named ≡ true) × (has w (d.0).loose ≡ true)
out_loose size st _ _ _ _ w (Step.exchanged s l exchange new can fresh stores) stored linked named = (
  named_grows w size st (ExchangeLink s l exchange) (swapped st l new, Held_ (link_at st l)) (Step.exchanged s l exchange new can fresh stores) named,
  subst (λ (o : Option ℕ). has w (st.loose ++ option_to_list o) ≡ true) (sym linked) (has_last w st.loose),
)
out_loose size st _ _ _ _ w (Step.compared s l exchange can misses) stored linked named = absurd (let x : true ≡ false = sym stored ∙ misses.1 in cc)

-- and one that stores nothing
kept_state : (size : ℕ) (st : State) (s l : ℕ) (exchange : Exchange) (d : State × Answer) → Step size st (ExchangeLink s l exchange) d → is_stored (link_at st l) exchange ≡ false → d.0 ≡ st
kept_state size st _ _ _ _ (Step.exchanged s l exchange new can fresh stores) misses = absurd (let x : true ≡ false = sym stores.1 ∙ misses in cc)
kept_state size st _ _ _ _ (Step.compared s l exchange can none) misses = refl

-- a value that is new in a list is so in one that leads to the same state
new_later : (n : Name) (o : Option ℕ) (vs : List (HeldKey Entry)) (log log' : List Entry) → IsLegalList (start n) log → IsNewIn n o vs → HoldersKnow (rules (start n)) vs log → after (start n) log' ≡ after (start n) log → IsNewIn n (value_in (with_list vs log')) (with_list vs log')
new_later n None vs log log' l new kept same = subst (λ (hs : List (HeldKey Entry)). IsNewIn n (value_in (with_list hs log')) (with_list hs log')) (sym new) refl
new_later n (Some v) [] log log' l new kept same = absurd (let x : false ≡ true = new.0.0 in cc)
new_later n (Some v) (x ∷ y ∷ vs) log log' l new kept same = absurd (let x : false ≡ true = new.0.0 in cc)
new_later n (Some v) (x ∷ []) log log' l new kept same =
    let label : v ≡ x.label = sym new.0.2 in
    subst (λ (w : ℕ). IsNewIn n (Some w) (record { kind = x.kind; key = x.key; own = log'; label = x.label; note = x.note } ∷ [])) label (
      key_later (Some v) (x ∷ []) log' new.0,
      subst (λ (z : State). has v z.named ≡ false) (sym same) (not_true _ (still_new n (Some v) (x ∷ []) log new kept)),
      subst (λ (z : State). IsVacant z (home_of v)) (sym same) (still_vacant n v (x ∷ []) log l new kept),
      new.3,
    )

renewed_own : (vs : List (HeldKey Entry)) (log : List Entry) (w : ℕ) → value_in (with_list vs log) ≡ Some w → own_of (with_list vs log) ≡ log
renewed_own [] log w h = absurd (cc)
renewed_own (x ∷ vs) log w h = refl

renewed_twice : (vs : List (HeldKey Entry)) (log : List Entry) → with_list vs log ≡ with_list (with_list vs log) log
renewed_twice [] log = refl
renewed_twice (x ∷ vs) log = ap (λ (hs : List (HeldKey Entry)). record { kind = x.kind; key = x.key; own = log; label = x.label; note = x.note } ∷ hs) (renewed_twice vs log)

module _ (link : Link) (a : Activation) (pass pass' : Pass) (in_ : IsLinkFor link a pass) (keys keys' : Keys) (f : ℕ → ℕ) (v : ℕ) (ev : Event) (trades : ℕ → Bool)
    (told : Took (at_link pass.name (link_number link)) keys pass keys' pass' (a.life ∷ []) f v (entries pass 0 (λ v log. ev)) trades) where
  abbrev step : HasStepped (at_link pass.name (link_number link)) pass.id pass.seen pass'.seen keys.held keys'.held (a.life ∷ []) v (f v) (entries pass 0 (λ v log. ev)) trades
  step = told.2

  -- what the link held, as its word's keys know
  held : link_at (after (start pass.name) step.since.0) (link_number link) ≡ link_at (after (start pass.name) step.log) (link_number link)
  held = same pass.name (link_number link) v pass.id pass.seen keys.held (a.life ∷ []) step.since step.log step.found

  pub taken : ActsOnLink link a pass pass' ev v
  taken =
      let w = within pass.name a.slot a.life (link_number link) a.since pass.seen in_.within v pass.id keys.held step.since step.log step.found in
      record { same = told.0; before = step.log; noted = step.noted; is_before = step.is_log; during = (w.0, w.2, step.found.none_ended a.life (inl refl)); found = step.found.shows ∙ ap link_word held }

  -- what it held, as it was known in the step
  pub held_is : (o : Option ℕ) → link_at (after (start pass.name) step.log) (link_number link) ≡ o → held_before taken ≡ o
  unfolding taken
  held_is o is = is

  its_key : IsKeyOf (link_at (after (start pass.name) step.log) (link_number link)) step.since.1
  its_key = subst (λ (o : Option ℕ). IsKeyOf o step.since.1) held step.found.stands

  had : (b : Bool) → trades v ≡ b → keys'.held ≡ with_list (held_then (kind_of links) b step.since.1 keys.held) pass'.seen
  had b e = step.keys ∙ ap (λ (c : Bool). with_list (held_then (kind_of links) c step.since.1 keys.held) pass'.seen) e

  -- where the keys changed places, it came out
  pub came_out : trades v ≡ true → value_in keys'.held ≡ held_before taken
  unfolding taken
  came_out e = ap value_in (had true e) ∙ value_of (link_at (after (start pass.name) step.log) (link_number link)) step.since.1 pass'.seen its_key

  -- what came out was named, and is loose
  pub is_out : (exchange : Exchange) → keys.name ≡ pass.name → ev ≡ ExchangeLink a.slot (link_number link) exchange → is_stored (held_before taken) exchange ≡ true → trades v ≡ true
      → (w : ℕ) → value_in keys'.held ≡ Some w → (has w (state_of keys').named ≡ true) × (has w (state_of keys').loose ≡ true)
  unfolding taken
  is_out exchange book is stored e w out =
      let now : State = after (start pass.name) step.log in let old : Option ℕ = link_at now (link_number link) in let linked : link_at now (link_number link) ≡ Some w = sym (came_out e) ∙ out in
      let done : next pass.size now ev ≡ Some (step.noted.later, step.noted.answer) = subst (λ (l : List Entry). next pass.size (after (start pass.name) l) ev ≡ Some (step.noted.later, step.noted.answer)) step.is_log step.noted.does in
      let st : Step pass.size now (ExchangeLink a.slot (link_number link) exchange) (step.noted.later, step.noted.answer) = subst (λ (x : Event). Step pass.size now x (step.noted.later, step.noted.answer)) is (step_of _ _ _ _ done) in
      let named = (linked_named now (reached_after pass.name step.log step.found.distinct step.found.before.legal) (link_number link) w linked).0 in
      subst (λ (z : State). (has w z.named ≡ true) × (has w z.loose ≡ true)) (sym (knows w out book ∙ step.noted.leads)) (out_loose pass.size now a.slot (link_number link) exchange (step.noted.later, step.noted.answer) w st stored linked named)
    where
      knows : (w : ℕ) → value_in keys'.held ≡ Some w → keys.name ≡ pass.name → state_of keys' ≡ after (start pass.name) pass'.seen
      knows w out book = ap (λ (t : Name × List Entry). after (start t.0) t.1) (λ j. ((told.1 ∙ book) j, (ap own_of (step.keys) ∙ renewed_own (held_then (kind_of links) (trades v) step.since.1 keys.held) pass'.seen w (sym (ap value_in step.keys) ∙ out)) j))

  pub stayed : trades v ≡ false → value_in keys'.held ≡ value_in keys.held
  stayed e = ap value_in (had false e) ∙ same_value keys.held pass'.seen

  -- where nothing was stored, all is as it was
  same_then : (exchange : Exchange) → ev ≡ ExchangeLink a.slot (link_number link) exchange → is_stored (held_before taken) exchange ≡ false → step.noted.later ≡ after (start pass.name) step.log
  unfolding taken
  same_then exchange is misses =
      let st : State = start pass.name in let now : State = after st step.log in let old : Option ℕ = link_at now (link_number link) in
      let done : next pass.size now ev ≡ Some (step.noted.later, step.noted.answer) = subst (λ (l : List Entry). next pass.size (after st l) ev ≡ Some (step.noted.later, step.noted.answer)) step.is_log step.noted.does in
      kept_state pass.size now a.slot (link_number link) exchange (step.noted.later, step.noted.answer) (subst (λ (x : Event). Step pass.size now x (step.noted.later, step.noted.answer)) is (step_of _ _ _ _ done)) misses

  -- so the link holds what it held,
  pub link_kept : (exchange : Exchange) → ev ≡ ExchangeLink a.slot (link_number link) exchange → is_stored (held_before taken) exchange ≡ false → link_at (after (start pass.name) pass'.seen) (link_number link) ≡ held_before taken
  unfolding taken
  link_kept exchange is misses = ap (λ (z : State). link_at z (link_number link)) (step.noted.leads ∙ same_then exchange is misses)

  -- and the value is as new as before
  pub still_may : (exchange : Exchange) → keys.name ≡ pass.name → IsNewIn pass.name (value_in keys.held) keys.held → ev ≡ ExchangeLink a.slot (link_number link) exchange → is_stored (held_before taken) exchange ≡ false → trades v ≡ false
      → IsNewIn keys'.name (value_in keys'.held) keys'.held
  still_may exchange book new is misses e =
      let st : State = start pass.name in let now : State = after st step.log in
      let same : step.noted.later ≡ now = same_then exchange is misses in
      let kept = kept_right st step.since.1 keys.held step.log step.found.before.kept.1 in
      subst (λ (t : Name × List (HeldKey Entry)). IsNewIn t.0 (value_in t.1) t.1) (λ j. (sym (told.1 ∙ book) j, sym (had false e) j))
      (new_later pass.name (value_in keys.held) keys.held step.log pass'.seen step.found.before.legal new kept (step.noted.leads ∙ same))

  pub knows_all : keys'.held ≡ with_list keys'.held pass'.seen
  knows_all = step.keys ∙ renewed_twice (held_then (kind_of links) (trades v) step.since.1 keys.held) pass'.seen ∙ ap (λ (hs : List (HeldKey Entry)). with_list hs pass'.seen) (sym step.keys)

  -- and there is still at most one key
  pub still_one : is_at_most_one keys.held ≡ true → is_at_most_one keys'.held ≡ true
  still_one one = go (is_true (trades v))
    where
      go : (trades v ≡ true) ⊎ (trades v ≡ false) → is_at_most_one keys'.held ≡ true
      go (inl e) = ap is_at_most_one (had true e) ∙ one_of (link_at (after (start pass.name) step.log) (link_number link)) step.since.1 pass'.seen its_key
      go (inr e) = ap is_at_most_one (had false e) ∙ one_later keys.held pass'.seen one

-- a read leaves the link as it is
pub read_later : (link : Link) (a : Activation) (pass pass' : Pass) (in_ : IsLinkFor link a pass) (keys keys' : Keys) (v : ℕ)
    → (told : Took (at_link pass.name (link_number link)) keys pass keys' pass' (a.life ∷ []) (λ v. v) v (entries pass 0 (λ v log. ReadLink a.slot (link_number link))) (λ v. false))
    → link_at (after (start pass.name) pass'.seen) (link_number link) ≡ held_before (taken link a pass pass' in_ keys keys' (λ v. v) v (ReadLink a.slot (link_number link)) (λ v. false) told)
unfolding taken
read_later link a pass pass' in_ keys keys' v told =
    let step = told.2 in let l : ℕ = link_number link in let now : State = after (start pass.name) step.log in
    let done : next pass.size now (ReadLink a.slot l) ≡ Some (step.noted.later, step.noted.answer) =
    subst (λ (log : List Entry). next pass.size (after (start pass.name) log) (ReadLink a.slot l) ≡ Some (step.noted.later, step.noted.answer)) step.is_log step.noted.does in
    ap (λ (z : State). link_at z l) (step.noted.leads ∙ still (step.noted.later, step.noted.answer) (step_of _ _ _ _ done))
  where
    still : (d : State × Answer) → Step pass.size (after (start pass.name) told.2.log) (ReadLink a.slot (link_number link)) d → d.0 ≡ after (start pass.name) told.2.log
    still _ (Step.read s l can) = refl
