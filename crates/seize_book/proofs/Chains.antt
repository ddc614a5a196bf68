-- Chains of blocks: more plans keep them, and so do an event of the machine and a write to a word that is no field of theirs.
use Rattle.std.proofs.Common.{◌==◌, ◌≡◌, ◌≢◌, ℕ, zero, suc, ◌+◌, ◌<◌, ◌≤◌, nat_lt, if◌then◌else◌, Bool, true, false, replicate, List, [], ◌∷◌, ◌++◌, length, get_or, set, unwrap_or, Option, Some, refl, sym, ◌∙◌, ap, subst, ◌⊎◌, inl, inr, arith}
use Rattle.std.specs.List.{Contains}
use Rattle.std.proofs.lemmas.List.{get_or_past, get_or_append_left, get_or-set_same, get_or-set_other, length-set}
use Rattle.std.proofs.lemmas.Bool.{cases_lt}
use native.Mathlib.Decide.{ℕ_discrete}
use Rattle.seize_machine.specs.Machine.State.{State, Slot, Progress, Head, Inactive, Active, Place, Mark, Out, Rest, no_slot, slot_at, head_at, waiting_at, is_active, opening}
use Rattle.seize_machine.specs.Machine.Event.{Event}
use Rattle.seize_machine.specs.Machine.Next.{look, looked, marked_place, taken_call}
use Rattle.seize_machine.specs.Machine.History.{IsReached, first_or_none}
use Rattle.seize_machine.specs.Machine.Laws.{walk_of, Lists, Walks}
use Rattle.seize_machine.specs.Machine.Frames.{changes_head_of}
use Rattle.seize_machine.specs.declared.machine.event.Answer.{Answer}
use Rattle.seize_machine.specs.declared.machine.event.Try.TheVariants.{Won, Lost}
use Rattle.seize_machine.proofs.Facts.{Step, Stands, some_is, head_frame, held_full}
use Rattle.seize_book.specs.Blocks.{Plan, no_plan, planned_by, block_number, plan_value, list_word}
use Rattle.seize_book.specs.Chains.{next_field, first_field, insertion_value, FieldsLeadOn, IsChain, HasChains, Leads}
use Rattle.seize_book.specs.Homes.{home_of}
use Rattle.seize_book.proofs.Lists.{taken_either}
use Rattle.seize_book.proofs.Plans.{AllLess, has_values, tried_there, waiting_there}

-- Batches that a call walks were detached: they are held, so they have values.

all_less : (n : ℕ) (bs : List ℕ) → ((b : ℕ) → Contains bs b → b < n) → AllLess n bs
all_less n [] each = tt
all_less n (b ∷ bs) each = (each b (zero, omega arith, refl), all_less n bs (λ c found. each c (suc found.0, omega (arith, found.1), found.2)))

pub walking_there : (st : State) → IsReached st → (m : ℕ) → AllLess (length st.batches) (walk_of (slot_at st m).call)
walking_there st r m = all_less (length st.batches) (walk_of (slot_at st m).call) (λ b walked. has_values st b (held_full st r b (inr (inl (m, walked)))))

-- A chain stays as plans are added: it speaks of the plans of its batches alone.

plan_kept : (ps more : List Plan) (b : ℕ) → b < length ps → get_or ps b no_plan ≡ get_or (ps ++ more) b no_plan
plan_kept ps more b there = sym (get_or_append_left ps more no_plan b there)

served_kept : (ps more : List Plan) (b m : ℕ) → b < length ps → insertion_value ps b m ≡ insertion_value (ps ++ more) b m
served_kept ps more b m there = ap (λ (plan : Plan). plan_value m plan.slots plan.values) (plan_kept ps more b there)

word_kept : (ps more : List Plan) (m : ℕ) (bs : List ℕ) → AllLess (length ps) bs → list_word (λ c. block_number (insertion_value ps c m)) bs ≡ list_word (λ c. block_number (insertion_value (ps ++ more) c m)) bs
word_kept ps more m [] there = refl
word_kept ps more m (b ∷ bs) there = ap (λ (v : ℕ). block_number v + 2) (served_kept ps more b m there.0)

leads_stay : (ps more : List Plan) (told : ℕ → ℕ) (m b : ℕ) (bs : List ℕ) → AllLess (length ps) (b ∷ bs) → FieldsLeadOn ps told m b bs → FieldsLeadOn (ps ++ more) told m b bs
leads_stay ps more told m b bs there leads =
    let same = sym (served_kept ps more b m there.0) in
    let front = ap (λ (plan : Plan). block_number (unwrap_or (first_or_none plan.values) 0)) (plan_kept ps more b there.0) in
    (ap (λ (v : ℕ). told (next_field (home_of v))) same ∙ leads.0 ∙ word_kept ps more m bs there.1, ap (λ (v : ℕ). told (first_field (home_of v))) same ∙ leads.1 ∙ front)

pub chain_stays : (ps more : List Plan) (told : ℕ → ℕ) (m : ℕ) (bs : List ℕ) → AllLess (length ps) bs → IsChain ps told m bs → IsChain (ps ++ more) told m bs
chain_stays ps more told m [] there chain = tt
chain_stays ps more told m (b ∷ bs) there chain = (leads_stay ps more told m b bs there chain.0, chain_stays ps more told m bs there.1 chain.1)

-- Lists that the proof of a step speaks of: their batches were detached, and the fields lead through them.

abbrev Led : List Plan → (ℕ → ℕ) → ℕ → List ℕ → Type 0
Led ps told m bs = AllLess (length ps) bs × IsChain ps told m bs

-- what holds of each element, and of one that is written, holds of each after the write
each_set : {X : Type 0} (P : ℕ → X → Type 0) (xs : List X) (s : ℕ) (x past : X) → ((m : ℕ) → P m (get_or xs m past)) → P s x → (m : ℕ) → P m (get_or (set xs s x) m past)
each_set P xs s x past old new m = go (ℕ_discrete m s)
  where
    within : (s < length xs) ⊎ (length xs ≤ s) → P s (get_or (set xs s x) s past)
    within (inl l) = subst (P s) (sym (get_or-set_same xs s x past l)) new
    within (inr le) = subst (P s) (get_or_past xs s past le ∙ sym (get_or_past (set xs s x) s past (subst (λ (k : ℕ). k ≤ s) (sym (length-set xs s x)) le))) (old s)

    go : Dec (m ≡ s) → P m (get_or (set xs s x) m past)
    go (yes e) = subst (λ (k : ℕ). P k (get_or (set xs s x) k past)) (sym e) (within (cases_lt s (length xs)))
    go (no d) = subst (P m) (sym (get_or-set_other xs s m x past d)) (old m)

-- a slot that is added has nothing to walk
added_walk : (P : List ℕ → Type 0) (slots : List Slot) (x : Slot) (m : ℕ) → walk_of x.call ≡ [] → P (walk_of (get_or slots m no_slot).call) → P (walk_of (get_or (slots ++ x ∷ []) m no_slot).call)
added_walk P [] x zero none old = subst P (sym none) old
added_walk P [] x (suc m) none old = old
added_walk P (y ∷ slots) x zero none old = old
added_walk P (y ∷ slots) x (suc m) none old = added_walk P slots x m none old

-- Places where a call has nothing to walk.

abbrev walk_at : Place → List ℕ
walk_at place = walk_of (Some (record { place = place; queue = [] }))

taken_walk : (size slots : ℕ) (batch : List ℕ) → walk_of (taken_call size slots batch) ≡ []
taken_walk size slots batch = taken_either (λ (o : Option Progress). walk_of o ≡ []) size slots batch refl refl

begun_walk : (place : Place) (slots : ℕ) → (place ≡ Rest [] []) ⊎ (place ≡ Mark 0 slots []) ⊎ (place ≡ Out true) ⊎ (place ≡ Out false) → walk_at place ≡ []
begun_walk place slots (inl p) = ap walk_at p
begun_walk place slots (inr (inl p)) = ap walk_at p
begun_walk place slots (inr (inr (inl p))) = ap walk_at p
begun_walk place slots (inr (inr (inr p))) = ap walk_at p

marked_walk : (active : Bool) (k note : ℕ) (marks batch : List ℕ) → walk_at (marked_place active k note marks batch) ≡ []
marked_walk false k note marks batch = refl
marked_walk true k note marks batch = go (nat_lt (length marks) (length batch))
  where
    go : (few : Bool) → walk_at (if few then Mark (k + 1) note (marks ++ k ∷ []) else Rest [] []) ≡ []
    go true = refl
    go false = refl

look_walk : (b won : ℕ) (later : List ℕ) → walk_at (look b won later) ≡ []
look_walk b won [] = refl
look_walk b won (m ∷ later) = refl

looked_walk : (head : Head) (b won m : ℕ) (later : List ℕ) → walk_at (looked head b won m later) ≡ []
looked_walk Inactive b won m later = look_walk b won later
looked_walk (Active waiting) b won m later = refl

-- A step leads from such lists to such lists.

module _ (size : ℕ) (st : State) (ps : List Plan) (told : ℕ → ℕ) (r : IsReached st) (many : length ps ≡ length st.batches) (heads : (m : ℕ) → Led ps told m (waiting_at (head_at st m))) where
  -- those that wait at the heads
  by_head : (s : ℕ) (x : Head) → Led ps told s (waiting_at x) → (m : ℕ) → Led ps told m (waiting_at (get_or (set st.heads s x) m Inactive))
  by_head s x new = each_set (λ m head. Led ps told m (waiting_at head)) st.heads s x Inactive heads new

  heads_step : (event : Event) (d : State × Answer) → Step size st event d → Leads st ps told event → (m : ℕ) → Led ps told m (waiting_at (head_at d.0 m))
  heads_step event _ (Step.took_new s is free) leads m =
      let same = head_frame m size st (Event.Take s) _ (Step.took_new s is free) refl in subst (λ (head : Head). Led ps told m (waiting_at head)) (sym same) (heads m)
  heads_step event _ (Step.entered s idle off) leads m = by_head s (Active []) (tt, tt) m
  heads_step event _ (Step.inserted s k b won later saw queue waiting stands head_is) leads m =
      let there = subst (λ (n : ℕ). b < n) (sym many) (tried_there st s b won k later saw queue r stands) in
      let rest = subst (λ (head : Head). Led ps told k (waiting_at head)) head_is (heads k) in
      by_head k (Active (b ∷ waiting)) ((there, rest.0), (leads b won later saw queue waiting stands head_is, rest.1)) m
  heads_step event _ (Step.swapped_out s true queue stands) leads m = by_head s (Active []) (tt, tt) m
  heads_step event _ (Step.swapped_out s false queue stands) leads m = by_head s Inactive (tt, tt) m
  heads_step event _ (Step.added s b won queue d stands is) leads m = subst (λ (x : State × Answer). Led ps told m (waiting_at (head_at x.0 m))) (some_is _ _ is) (heads m)
  heads_step event _ (Step.subtracted s b walk queue d stands is) leads m = subst (λ (x : State × Answer). Led ps told m (waiting_at (head_at x.0 m))) (some_is _ _ is) (heads m)
  heads_step event _ _ leads m = heads m

  -- those that the calls walk
  module _ (walks : (m : ℕ) → Led ps told m (walk_of (slot_at st m).call)) where
    by_call : (s : ℕ) (x : Slot) → Led ps told s (walk_of x.call) → (m : ℕ) → Led ps told m (walk_of (get_or (set st.slots s x) m no_slot).call)
    by_call s x new = each_set (λ m slot. Led ps told m (walk_of slot.call)) st.slots s x no_slot walks new

    stood : (s : ℕ) (place : Place) (queue : List ℕ) → Stands st s place queue → Led ps told s (walk_at place)
    stood s place queue stands = subst (λ (o : Option Progress). Led ps told s (walk_of o)) stands (walks s)

    none : (s : ℕ) (bs : List ℕ) → bs ≡ [] → Led ps told s bs
    none s bs empty = subst (Led ps told s) (sym empty) (tt, tt)

    walks_step : (event : Event) (d : State × Answer) → Step size st event d → (m : ℕ) → Led ps told m (walk_of (slot_at d.0 m).call)
    walks_step event _ (Step.took_new s is free) m = added_walk (Led ps told m) st.slots _ m (taken_walk size (length st.slots + 1) st.rest) (walks m)
    walks_step event _ (Step.took_old s there off free) m = by_call s _ (none s _ (taken_walk size (length st.slots) st.rest)) m
    walks_step event _ (Step.gave s idle off ends) m = by_call s _ (tt, tt) m
    walks_step event _ (Step.gathered s idle off alone some) m = by_call s _ (tt, tt) m
    walks_step event _ (Step.entered s idle off) m = walks m
    walks_step event _ (Step.begun_retire s v idle may) m = by_call s _ (tt, tt) m
    walks_step event _ (Step.begun_other s job place idle which may) m = by_call s _ (none s (walk_at place) (begun_walk place (length st.slots) which)) m
    walks_step event _ (Step.put s v from before after_ place stands how (inl p) is) m = by_call s _ (none s (walk_at place) (ap walk_at p.0)) m
    walks_step event _ (Step.put s v from before after_ place stands how (inr p) is) m = by_call s _ (none s (walk_at place) (ap walk_at p)) m
    walks_step event _ (Step.marked s k x note marks queue stands there turn) m = by_call s _ (none s _ (marked_walk (is_active (head_at st k)) k note marks (slot_at st s).batch)) m
    walks_step event _ (Step.looked_at s b won k later queue stands) m = by_call s _ (none s _ (looked_walk (head_at st k) b won k later)) m
    walks_step event _ (Step.detached s x note marks queue stands le) m = by_call s _ (none s _ (look_walk (length st.batches) 0 marks)) m
    walks_step event _ (Step.inserted s k b won later saw queue waiting stands head_is) m = by_call s _ (none s _ (look_walk b (won + 1) later)) m
    walks_step event _ (Step.lost s k b won later saw queue stands other) m = by_call s _ (tt, tt) m
    walks_step event _ (Step.added s b won queue d stands is) m = subst (λ (x : State × Answer). Led ps told m (walk_of (slot_at x.0 m).call)) (some_is _ _ is) (by_call s _ (tt, tt) m)
    walks_step event _ (Step.subtracted s b walk queue d stands is) m =
        let old = stood s (Rest [] (b ∷ walk)) queue stands in
        subst (λ (x : State × Answer). Led ps told m (walk_of (slot_at x.0 m).call)) (some_is _ _ is) (by_call s _ (old.0.1, old.1.1) m)
    walks_step event _ (Step.swapped_out s stays queue stands) m = by_call s _ (heads s) m
    walks_step event _ (Step.handed s v puts given_ walk queue stands fresh) m = by_call s _ (stood s (Rest (v ∷ given_) walk) queue stands) m
    walks_step event _ (Step.returned s stands) m = by_call s _ (tt, tt) m
    walks_step event _ (Step.read s l may) m = walks m
    walks_step event _ (Step.exchanged s l exchange new may fresh how) m = walks m
    walks_step event _ (Step.compared s l exchange may how) m = walks m

pub chained_step : (size : ℕ) (st : State) (event : Event) (d : State × Answer) (ps : List Plan) (told : ℕ → ℕ) → IsReached st → length ps ≡ length st.batches → Step size st event d
    → Leads st ps told event → HasChains st ps told → HasChains d.0 (ps ++ planned_by st event) told
chained_step size st event d ps told r many step leads chained m = (stays _ (heads_step size st ps told r many heads event d step leads m), stays _ (walks_step size st ps told r many heads walks event d step m))
  where
    below : (bs : List ℕ) → AllLess (length st.batches) bs → AllLess (length ps) bs
    below bs there = subst (λ (n : ℕ). AllLess n bs) (sym many) there

    heads : (m : ℕ) → Led ps told m (waiting_at (head_at st m))
    heads m = (below _ (waiting_there st r m), (chained m).0)

    walks : (m : ℕ) → Led ps told m (walk_of (slot_at st m).call)
    walks m = (below _ (walking_there st r m), (chained m).1)

    stays : (bs : List ℕ) → Led ps told m bs → IsChain (ps ++ planned_by st event) told m bs
    stays bs led = chain_stays ps (planned_by st event) told m bs led.0 led.1

-- A write of one field leaves the chains that don't go through its block.

pub fields_apart : (k j : ℕ) → (next_field k ≢ first_field j) × (next_field k ≡ next_field j → k ≡ j) × (first_field k ≡ first_field j → k ≡ j)
fields_apart k j = (λ e. omega (arith, e), λ e. omega (arith, e), λ e. omega (arith, e))

chain_write : (ps : List Plan) (told told' : ℕ → ℕ) (f m : ℕ) (bs : List ℕ) → ((j : ℕ) → j ≢ f → told' j ≡ told j)
    → ((b : ℕ) → Contains bs b → (next_field (home_of (insertion_value ps b m)) ≢ f) × (first_field (home_of (insertion_value ps b m)) ≢ f)) → IsChain ps told m bs → IsChain ps told' m bs
chain_write ps told told' f m [] same apart chain = tt
chain_write ps told told' f m (b ∷ bs) same apart chain =
    let own = apart b (zero, omega arith, refl) in
    let leads : FieldsLeadOn ps told' m b bs = (same _ own.0 ∙ chain.0.0, same _ own.1 ∙ chain.0.1) in
    (leads, chain_write ps told told' f m bs same (λ c found. apart c (suc found.0, omega (arith, found.1), found.2)) chain.1)

pub chained_write : (st : State) (ps : List Plan) (told told' : ℕ → ℕ) (f : ℕ) → ((j : ℕ) → j ≢ f → told' j ≡ told j)
    → ((m b : ℕ) → (Lists st m b ⊎ Walks st m b) → (next_field (home_of (insertion_value ps b m)) ≢ f) × (first_field (home_of (insertion_value ps b m)) ≢ f))
    → HasChains st ps told → HasChains st ps told'
chained_write st ps told told' f same apart chained m = (
  chain_write ps told told' f m (waiting_at (head_at st m)) same (λ b listed. apart m b (inl listed)) (chained m).0,
  chain_write ps told told' f m (walk_of (slot_at st m).call) same (λ b walked. apart m b (inr walked)) (chained m).1,
)

-- In an opening nothing waits, and no call is under way.

all_same : {X : Type 0} (n m : ℕ) (x : X) → get_or (replicate n x) m x ≡ x
all_same zero m x = refl
all_same (suc n) zero x = refl
all_same (suc n) (suc m) x = all_same n m x

pub chained_opening : (slots : ℕ) (links : List (Option ℕ)) (told : ℕ → ℕ) → HasChains (opening slots links) [] told
chained_opening slots links told m =
    (subst (λ (head : Head). IsChain [] told m (waiting_at head)) (sym (all_same slots m Inactive)) tt, subst (λ (slot : Slot). IsChain [] told m (walk_of slot.call)) (sym (all_same slots m no_slot)) tt)

-- An event that changes no head inserts nothing.
pub unled : (st : State) (ps : List Plan) (told : ℕ → ℕ) (event : Event) → ((k : ℕ) → changes_head_of k event ≡ false) → Leads st ps told event
unled st ps told (Event.Insert s m Won) none = absurd (let x : (m == m) ≡ false = none m in grind arith)
unled st ps told (Event.Insert s m Lost) none = tt
unled st ps told _ none = tt
