-- The keys of a slot and of a value are enough to begin to retire the value.
use Rattle.std.proofs.Common.{Option, Some, Bool, ◌||◌, not, if◌then◌else◌, filter, ◌≡◌, ℕ, zero, suc, ◌<◌, ◌≤◌, true, false, ◌==◌, List, length, [], ◌∷◌, ◌++◌, refl, sym, ◌∙◌, ap, subst, ◌⊎◌, inl, inr, ⊎_elim, arith}
use Rattle.seize_machine.specs.Machine.State.{State, Append, slot_at, is_idle, has}
use Rattle.seize_machine.specs.Machine.Event.{Event, Begin}
use Rattle.seize_machine.specs.Machine.Next.{begun, retiring, with_named}
use Rattle.seize_machine.specs.Machine.Frames.{begins_retiring}
use Rattle.seize_machine.specs.Machine.History.{IsReached}
use Rattle.seize_machine.specs.declared.machine.event.Answer.{Answer}
use Rattle.seize_machine.specs.declared.machine.event.Answer.TheVariants.{Done}
use Rattle.seize_machine.specs.declared.machine.event.Job.{Job}
use Rattle.seize_machine.specs.declared.machine.event.Job.TheVariants.{Retire}
use Rattle.seize_machine.proofs.Facts.{Step, next_of, step_of, beginning, eq_true, gone_named, is_true, loose_named}
use Rattle.seize_book.specs.Ledger.{HeldKey, with_list}
use Rattle.seize_book.specs.Entry.{Entry, Made, Deed}
use Rattle.seize_book.specs.Book.{IsLegalList, after, blocks, slots}
use Rattle.seize_book.specs.Fair.{Before, Covers, Fair, MayAdd, pass_key}
use Rattle.seize_book.specs.Homes.{HasOne, IsVacant, home_of}
use Rattle.seize_book.specs.Others.{IsLastIn, IsSpent, MayBegin, state_of, value_of}
use Rattle.seize_book.specs.Private.{is_one, key_of, label_of, own_of}
use Rattle.seize_book.specs.Loans.{CarriesOne}
use Rattle.seize_book.specs.Tokens.{AddsEntry, Name, start}
use Rattle.seize_book.specs.Adding.{deed_with_words}
use Rattle.seize_book.specs.declared.book.keys.Keys.{Keys}
use Rattle.seize_book.specs.declared.book.pass.Pass.{Pass}
use Rattle.seize_book.specs.declared.book.value_key.ValueKey.{ValueKey}
use Rattle.seize_book.proofs.Lists.{equal, legal_front, reached_after}
use Rattle.seize_book.proofs.Private.{renewed_label, after_one, only, only_is, differ}
use Rattle.seize_book.proofs.Sound.{has_last, new_named, old_named, pushed, vacant_later}

retires : ℕ → ℕ → ℕ → ℕ → List ℕ → Deed
retires p size s v kepts = record { pass = p; size = size; event = Begin s (Retire v); life = 0; kepts = kepts }

covers : (st : State) (log : List Entry) (p size v : ℕ) (kepts : List ℕ) (mine : List Entry) (a b : List (HeldKey Entry)) → key_of b ≡ home_of v
    → Covers st (pass_key p mine ∷ (only slots a ++ only blocks b)) log (Made (retires p size (key_of a) v kepts))
unfolding retires
covers st log p size v kepts mine a b home zero k other there = differ p k (λ i. other.0 (refl, i))
covers st log p size v kepts mine a b home (suc zero) k other there = refl
covers st log p size v kepts mine a b home (suc (suc zero)) k other there = differ (key_of a) k (λ i. other.1.0 (refl, i))
covers st log p size v kepts mine a b home (suc (suc (suc zero))) k other there = refl
covers st log p size v kepts mine a b home (suc (suc (suc (suc zero)))) k other there = refl
covers st log p size v kepts mine a b home (suc (suc (suc (suc (suc zero))))) k other there = refl
covers st log p size v kepts mine a b home (suc (suc (suc (suc (suc (suc zero)))))) k other there = differ (home_of v) k (λ i. other.1.1.0 (refl, i ∙ sym home))
covers st log p size v kepts mine a b home (suc (suc (suc (suc (suc (suc (suc zero))))))) k other there = refl
covers st log p size v kepts mine a b home (suc (suc (suc (suc (suc (suc (suc (suc zero)))))))) k other there = refl
covers st log p size v kepts mine a b home (suc (suc (suc (suc (suc (suc (suc (suc (suc r))))))))) k other there = refl

-- what was named afterwards was, or is this one
added : (v : ℕ) (named : List ℕ) (u : ℕ) → has u (with_named named v) ≡ true → (u ≡ v) ⊎ (has u named ≡ true)
added v named u = go (has v named)
  where
    go : (b : Bool) → has u (if b then named else named ++ v ∷ []) ≡ true → (u ≡ v) ⊎ (has u named ≡ true)
    go true h = inr h
    go false h = pushed v named u h

later : (v k n : ℕ) → v < n → n ≤ k → (v == k) ≡ false
later v k n l le = grind arith

pub may_retire : (n : Name) (p size : ℕ) (kepts : List ℕ) (seen : List Entry) (a b : List (HeldKey Entry)) → is_one slots a ≡ true → is_one blocks b ≡ true → key_of b ≡ home_of (label_of b) → is_idle (slot_at (after (start n) (own_of a)) (key_of a)) ≡ true → MayBegin (label_of b) (after (start n) (own_of b))
    → 1 ≤ length kepts → MayAdd n p seen (a ++ b) (record { pass = p; size = size; event = Begin (key_of a) (Retire (label_of b)); life = 0; kepts = kepts })
unfolding retires
may_retire n p size kepts seen a b one one' home idle may some =
    subst (λ (hs : List (HeldKey Entry)). MayAdd n p seen (hs ++ b) (retires p size (key_of a) (label_of b) kepts)) (sym (only_is slots a one))
    (subst (λ (hs : List (HeldKey Entry)). MayAdd n p seen (only slots a ++ hs) (retires p size (key_of a) (label_of b) kepts)) (sym (only_is blocks b one'))
    ((omega arith, (omega arith, tt)), (λ lives. refl), ((λ s. refl), λ st p. refl), fair))
  where
    fair : (mine log : List Entry) → Before n p seen (only slots a ++ only blocks b) log → Fair n (pass_key p mine ∷ (only slots a ++ only blocks b)) log (Made (retires p size (key_of a) (label_of b) kepts))
    fair mine log before =
        let st : State = after (start n) log in let s : ℕ = key_of a in let v : ℕ = label_of b in
        let slot = before.kept.0.1 in let value = before.kept.1.0.1 v (sym home) in
        let idle' : is_idle (slot_at st s) ≡ true = ap is_idle (sym slot.1) ∙ idle in
        let may' : (has v st.named ≡ false) ⊎ (has v st.loose ≡ true) = ⊎_elim (λ h. inl (sym value.0 ∙ h.0)) (λ h. inr (sym value.1 ∙ h.1)) may in
        let d : State × Answer = (begun (retiring st v) s (Append v), Done) in let step = Step.begun_retire s v idle' may' in
        record {
          done = d;
          legal = next_of size st (Begin s (Retire v)) d step;
          covers = covers (start n) log p size v kepts mine a b home;
          names = λ many was there. (there.0, (λ k le. refl), (λ k le. later (home_of v) k (many blocks) (subst (λ (z : ℕ). z < many blocks) home there.1.1.0) le), λ f le. refl);
          leads = tt;
          labels = λ u named. ⊎_elim
              (λ is. ⊎_elim (λ h. inr (inr (inr (inl (refl, sym is))), subst CarriesOne (sym is) h.2)) (λ h. inl (subst (λ (w : ℕ). has w st.named ≡ true) (sym is) (sym value.0 ∙ h.0))) may)
              (λ was. inl was) (added v st.named u named);
          says = some;
          places = λ makes. absurd (cc);
          one = ⊎_elim (λ h. new_named size st (Begin s (Retire v)) d v step (added v st.named)
              (subst (IsVacant st) home (vacant_later (start n) (own_of b) log (key_of b) before.legal before.kept.1.0 (subst (IsVacant (after (start n) (own_of b))) (sym home) h.1))))
              (λ h. old_named size st (Begin s (Retire v)) d step (λ u is. ⊎_elim (λ e. subst (λ (w : ℕ). has w st.named ≡ true) (sym e) (sym value.0 ∙ h.0)) (λ i. i) (added v st.named u is))) may;
        }

-- Afterwards the value is named, and not loose.

has_named : (v : ℕ) (named : List ℕ) → has v (with_named named v) ≡ true
has_named v named = go (has v named) refl
  where
    go : (b : Bool) → has v named ≡ b → has v (if b then named else named ++ v ∷ []) ≡ true
    go true e = e
    go false e = has_last v named

has_not : (v : ℕ) (xs : List ℕ) → has v (filter (λ x. not (x == v)) xs) ≡ false
has_not v [] = refl
has_not v (x ∷ xs) = go (x == v) refl (has_not v xs)
  where
    go : (b : Bool) → (x == v) ≡ b → has v (filter (λ y. not (y == v)) xs) ≡ false → has v (if not b then x ∷ filter (λ y. not (y == v)) xs else filter (λ y. not (y == v)) xs) ≡ false
    go true e h = h
    go false e h = ap (λ (c : Bool). c || has v (filter (λ y. not (y == v)) xs)) e ∙ h

pub spends : (size : ℕ) (st : State) (v : ℕ) (event : Event) (d : State × Answer) → Step size st event d → begins_retiring v event ≡ true → IsSpent v d.0
spends size st v event _ (Step.begun_retire s w idle may) h =
    subst (λ (z : ℕ). IsSpent z (begun (retiring st w) s (Append w))) (eq_true w v h) (has_named w st.named, has_not w st.loose)
spends size st v event _ (Step.begun_other s job place idle which from) h = other job h from.1
  where
    other : (job : Job) → begins_retiring v (Begin s job) ≡ true → beginning st s job ≡ Some place → IsSpent v (begun st s place)
    other (Retire w) h from = absurd (cc)
    other _ h from = absurd (cc)
spends size st v event _ _ h = absurd (cc)

-- and so does its key know
pub spent : (pass : Pass) (seen' : List Entry) (value value' : Keys) (s : ℕ) (kepts : List ℕ) (noted : AddsEntry pass.name pass.id pass.seen seen' (Made (deed_with_words pass (Begin s (Retire (label_of value.held))) kepts)))
    → is_one blocks value.held ≡ true → value.name ≡ pass.name → value'.name ≡ value.name → value'.held ≡ with_list value.held seen' → IsSpent (label_of value'.held) (state_of value')
spent pass seen' value value' s kepts noted one book name held =
    let v : ℕ = label_of value.held in let e : Deed = deed_with_words pass (Begin s (Retire v)) kepts in
    let now = subst (IsSpent v) (sym noted.leads) (spends e.size (after (start pass.name) noted.before) v e.event (noted.later, noted.answer) (step_of _ _ _ _ noted.does) (equal v v refl)) in
    let known = ap own_of held ∙ renewed_own value.held seen' one in
    subst (λ (st : State). IsSpent (label_of value'.held) st) (sym (ap (λ (n : Name). after (start n) (own_of value'.held)) (name ∙ book) ∙ ap (λ (l : List Entry). after (start pass.name) l) known))
    (subst (λ (w : ℕ). IsSpent w (after (start pass.name) seen')) (sym (ap label_of held ∙ renewed_label value.held seen')) now)
  where
    renewed_own : (held : List (HeldKey Entry)) (seen : List Entry) → is_one blocks held ≡ true → own_of (with_list held seen) ≡ seen
    renewed_own [] seen h = absurd (cc)
    renewed_own (x ∷ xs) seen h = refl

-- it was not reclaimed
not_gone : (size : ℕ) (st : State) (s v : ℕ) (d : State × Answer) → IsReached st → Step size st (Begin s (Retire v)) d → has v (d.0).gone ≡ false
not_gone size st _ _ _ r (Step.begun_retire s v idle may) = ⊎_elim (λ unnamed. go (is_true (has v st.gone)) unnamed) (λ loose. (loose_named st r v loose).1) may
  where
    go : (has v st.gone ≡ true) ⊎ (has v st.gone ≡ false) → has v st.named ≡ false → has v st.gone ≡ false
    go (inl gone) unnamed = absurd (let x : true ≡ false = sym (gone_named st r v gone) ∙ unnamed in cc)
    go (inr not) unnamed = not
not_gone size st _ _ _ r (Step.begun_other s job place idle which from) = absurd (let x : Option.None ≡ Some place = from.1 in cc)

-- and all others of its block were, as its key knows
pub last : (pass : Pass) (seen' : List Entry) (value : ValueKey) (keys' : Keys) (s : ℕ) (kepts : List ℕ) (noted : AddsEntry pass.name pass.id pass.seen seen' (Made (deed_with_words pass (Begin s (Retire (value_of value))) kepts))) → value.keys.name ≡ pass.name
    → IsSpent (label_of keys'.held) (state_of keys') → keys'.name ≡ value.keys.name → keys'.held ≡ with_list value.keys.held seen' → IsLastIn (label_of keys'.held) (state_of keys')
last pass seen' value keys' s kepts noted book spent name held w home other named = go (is_true (has w now.gone))
  where
    now : State
    now = state_of keys'

    is_now : now ≡ after (start pass.name) seen'
    is_now = ap (λ (t : Name × List Entry). after (start t.0) t.1) (λ j. ((name ∙ book) j, (ap own_of held ∙ (after_one blocks value.keys.held seen' value.one).1) j))

    v : ℕ
    v = label_of keys'.held

    its : v ≡ value_of value
    its = ap label_of held ∙ renewed_label value.keys.held seen'

    alive : has v now.gone ≡ false
    alive =
        let st : State = after (start pass.name) noted.before in let e = deed_with_words pass (Begin s (Retire (value_of value))) kepts in
        let legal = legal_front (start pass.name) noted.before (Made e) (subst (IsLegalList (start pass.name)) noted.appended noted.legal) in
        subst (λ (t : ℕ × State). has t.0 t.1.gone ≡ false) (λ j. (sym its j, sym (is_now ∙ noted.leads) j))
        (not_gone e.size st s (value_of value) (noted.later, noted.answer) (reached_after pass.name noted.before noted.distinct legal) (step_of _ _ _ _ noted.does))

    go : (has w now.gone ≡ true) ⊎ (has w now.gone ≡ false) → has w now.gone ≡ true
    go (inl gone) = gone
    go (inr not) = absurd (other (subst HasOne (sym is_now) noted.sound.one w v home named spent.0 not alive))
