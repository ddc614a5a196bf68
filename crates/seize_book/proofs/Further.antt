-- The keys of a slot and of further values are enough to hand a value to its reclaimer, which puts these.
use Rattle.std.proofs.Common.{◌≡◌, ℕ, zero, suc, ◌<◌, ◌≤◌, Bool, true, false, not, ◌||◌, ◌==◌, if◌then◌else◌, List, length, [], ◌∷◌, ◌++◌, map, Option, Some, None, is_some, refl, sym, ◌∙◌, ap, subst, ◌⊎◌, inl, inr, ⊎_elim, arith}
use Rattle.std.specs.Prelude.{slice_set}
use Rattle.std.specs.List.{Contains, list_all, list_any}
use Rattle.std.proofs.lemmas.List.{length-map}
use Rattle.std.proofs.lemmas.Bool.{and_from, or_from, or_left, or_right}
use Rattle.seize_machine.specs.Machine.State.{State, are_distinct, has, linked_values, slot_at}
use Rattle.seize_machine.specs.Machine.Event.{Hand}
use Rattle.seize_machine.specs.Machine.Next.{are_fresh, hand, handing_at, next, of_call, scheme, slot_handed}
use Rattle.seize_machine.specs.declared.machine.event.Answer.{Answer}
use Rattle.seize_machine.specs.declared.machine.event.Answer.TheVariants.{Handed}
use Rattle.seize_machine.proofs.Facts.{Step, and_true, eq_true, gone_grows, is_true, loose_named, not_true, step_of}
use Rattle.seize_book.specs.Ledger.{AllThere, Beside, HeldKey, HoldersKnow}
use Rattle.seize_book.specs.Adding.{deed_with_words}
use Rattle.seize_book.specs.Entry.{Deed, Entry, Made}
use Rattle.seize_book.specs.Kept.{kept_in, kepts_of}
use Rattle.seize_book.specs.Book.{HolderKnows, IsLegalList, TheBlock, after, blocks, kind_of, rules, slots}
use Rattle.seize_book.specs.Fair.{Before, Covers, Fair, IsLabel, MayAdd, pass_key}
use Rattle.seize_book.specs.Homes.{HasOne, IsVacant, home_of}
use Rattle.seize_book.specs.Values.{AreOfBook, AllNew, AreNew, IsEmpty, LieApart, book_in, values_of}
use Rattle.seize_book.specs.Others.{IsLastIn, IsSpent, IsWith, Knew}
use Rattle.seize_book.specs.Private.{is_one, key_of, own_of, are_of_blocks, labels_of}
use Rattle.seize_book.specs.Slots.{IsKeyOfBook, hands_next, slot_number, slot_of}
use Rattle.seize_book.specs.Loans.{CarriesOne}
use Rattle.seize_book.specs.Tokens.{Name, start}
use Rattle.seize_book.specs.declared.book.pass.Pass.{Pass}
use Rattle.seize_book.specs.declared.book.slot_key.SlotKey.{SlotKey}
use Rattle.seize_book.specs.declared.book.value_keys.ValueKeys.{ValueKeys}
use Rattle.seize_book.proofs.Lists.{after_push, equal, reached_after}
use Rattle.seize_book.proofs.Private.{differ, only, only_is}
use Rattle.seize_book.proofs.Sound.{vacant_later}
use Rattle.seize_book.proofs.Values.{blocks_within}

-- Values among others.

pub has_in : (xs : List ℕ) (v : ℕ) → Contains xs v → has v xs ≡ true
has_in [] v c = absurd (let l : c.0 < 0 = c.1 in omega (arith, l))
has_in (x ∷ xs) v (zero, below, is) = or_left _ (has v xs) (equal x v is)
has_in (x ∷ xs) v (suc k, below, is) = or_right (x == v) _ (has_in xs v (k, omega (arith, below), is))

pub either : (xs ys : List ℕ) (v : ℕ) → has v (xs ++ ys) ≡ true → (has v xs ≡ true) ⊎ (has v ys ≡ true)
either [] ys v h = inr h
either (x ∷ xs) ys v h = go (x == v) (either xs ys v) h
  where
    go : (b : Bool) → (has v (xs ++ ys) ≡ true → (has v xs ≡ true) ⊎ (has v ys ≡ true)) → (b || has v (xs ++ ys)) ≡ true → ((b || has v xs) ≡ true) ⊎ (has v ys ≡ true)
    go true rest h = inl refl
    go false rest h = rest h

pub in_second : (xs ys : List ℕ) (v : ℕ) → has v ys ≡ true → has v (xs ++ ys) ≡ true
in_second [] ys v h = h
in_second (x ∷ xs) ys v h = or_right (x == v) _ (in_second xs ys v h)

-- Values that lie apart.

home_in : (vs : List ℕ) (v w : ℕ) → home_of v ≡ home_of w → has v vs ≡ true → has (home_of w) (map home_of vs) ≡ true
home_in [] v w home h = absurd (cc)
home_in (x ∷ vs) v w home h = go (x == v) refl (home_in vs v w home) h
  where
    go : (b : Bool) → (x == v) ≡ b → (has v vs ≡ true → has (home_of w) (map home_of vs) ≡ true) → (b || has v vs) ≡ true → ((home_of x == home_of w) || has (home_of w) (map home_of vs)) ≡ true
    go true e rest h = or_left _ _ (equal (home_of x) (home_of w) (ap home_of (eq_true x v e) ∙ home))
    go false e rest h = or_right (home_of x == home_of w) _ (rest h)

-- in one block there is one
pub one_of : (vs : List ℕ) (v w : ℕ) → LieApart vs → home_of v ≡ home_of w → has v vs ≡ true → has w vs ≡ true → v ≡ w
one_of [] v w apart home a b = absurd (cc)
one_of (x ∷ vs) v w apart home a b = go (x == v) (x == w) (one_of vs v w (and_true _ _ apart).1 home) refl refl a b
  where
    never : (u : ℕ) → home_of u ≡ home_of x → has u vs ≡ true → ⊥
    never u same h = let e : true ≡ false = sym (home_in vs u x same h) ∙ not_true _ (and_true _ _ apart).0 in absurd (cc)

    go : (b c : Bool) → (has v vs ≡ true → has w vs ≡ true → v ≡ w) → (x == v) ≡ b → (x == w) ≡ c → (b || has v vs) ≡ true → (c || has w vs) ≡ true → v ≡ w
    go true true rest e i h k = sym (eq_true x v e) ∙ eq_true x w i
    go true false rest e i h k = absurd (never w (sym home ∙ ap home_of (sym (eq_true x v e))) k)
    go false true rest e i h k = absurd (never v (home ∙ ap home_of (sym (eq_true x w i))) h)
    go false false rest e i h k = rest h k

distinct : (vs : List ℕ) → LieApart vs → are_distinct vs ≡ true
distinct [] apart = refl
distinct (x ∷ vs) apart = let parts = and_true _ _ apart in and_from _ _ (go (is_true (has x vs)) (not_true _ parts.0)) (distinct vs parts.1)
  where
    go : (has x vs ≡ true) ⊎ (has x vs ≡ false) → has (home_of x) (map home_of vs) ≡ false → not (has x vs) ≡ true
    go (inl h) none = absurd (let e : true ≡ false = sym (home_in vs x x refl h) ∙ none in cc)
    go (inr h) none = ap not h

-- Keys of blocks.

-- the first one's kind and number
pub first_is : (h : HeldKey Entry) (held : List (HeldKey Entry)) → are_of_blocks (h ∷ held) ≡ true → (h.kind ≡ blocks) × (h.key ≡ home_of h.label) × (are_of_blocks held ≡ true)
first_is h held are = let both = and_true _ _ are in let its = and_true _ _ both.0 in (eq_true h.kind blocks its.0, eq_true h.key (home_of h.label) its.1, both.1)

-- no value lies in a block whose key is not held
none_there : (held : List (HeldKey Entry)) (k : ℕ) → are_of_blocks held ≡ true → Beside held blocks k → list_any (λ v. home_of v == k) (labels_of held) ≡ false
none_there [] k are beside = refl
none_there (h ∷ held) k are beside =
    let its = first_is h held are in
    or_from _ _ (differ (home_of h.label) k (λ e. beside.0 (sym its.0, e ∙ sym its.1))) (none_there held k its.2 beside.1)

none_past : (held : List (HeldKey Entry)) (many : ℕ → ℕ) (k : ℕ) → are_of_blocks held ≡ true → AllThere many held → many blocks ≤ k → list_any (λ v. home_of v == k) (labels_of held) ≡ false
none_past [] many k are there past = refl
none_past (h ∷ held) many k are there past =
    let its = first_is h held are in let below : h.key < many blocks = subst (λ (r : ℕ). h.key < many r) its.0 there.0 in
    or_from _ _ (differ (home_of h.label) k (λ e. let is : h.key ≡ k = its.1 ∙ sym e in omega (arith, below, past, is))) (none_past held many k its.2 there.1 past)

is_label : (held : List (HeldKey Entry)) (v : ℕ) → are_of_blocks held ≡ true → has v (labels_of held) ≡ true → IsLabel held v
is_label [] v are h = absurd (cc)
is_label (x ∷ held) v are h = go (x.label == v) refl (is_label held v) h
  where
    its : (x.kind ≡ blocks) × (x.key ≡ home_of x.label) × (are_of_blocks held ≡ true)
    its = first_is x held are

    go : (b : Bool) → (x.label == v) ≡ b → (are_of_blocks held ≡ true → has v (labels_of held) ≡ true → IsLabel held v) → (b || has v (labels_of held)) ≡ true → ((x.kind ≡ blocks) × (x.label ≡ v)) ⊎ IsLabel held v
    go true e rest h = inl (its.0, eq_true x.label v e)
    go false e rest h = inr (rest its.2 h)

-- with each of their values something is lent where it has to be
lent_of : (n : Name) (held : List (HeldKey Entry)) (v : ℕ) → AllNew n held → has v (labels_of held) ≡ true → CarriesOne v
lent_of n [] v new h = absurd (cc)
lent_of n (x ∷ held) v new h = go (x.label == v) refl (lent_of n held v new.1) h
  where
    go : (b : Bool) → (x.label == v) ≡ b → (has v (labels_of held) ≡ true → CarriesOne v) → (b || has v (labels_of held)) ≡ true → CarriesOne v
    go true e rest h = subst CarriesOne (eq_true x.label v e) new.0.2
    go false e rest h = rest h

-- what they know of their values still holds
module _ (n : Name) (log : List Entry) (legal : IsLegalList (start n) log) where
  abbrev now : State
  now = after (start n) log

  kept_block : (x : HeldKey Entry) → x.kind ≡ blocks → (rules (start n)).Knows x.kind x.key x.own log → HolderKnows (start n) TheBlock x.key x.own log
  kept_block x is kept = subst (λ (r : ℕ). HolderKnows (start n) (kind_of r) x.key x.own log) is kept

  fresh : (held : List (HeldKey Entry)) → are_of_blocks held ≡ true → HoldersKnow (rules (start n)) held log → AllNew n held → list_all (λ v. not (has v now.named)) (labels_of held) ≡ true
  fresh [] are kept new = refl
  fresh (h ∷ held) are kept new =
      let its = first_is h held are in
      let same = (kept_block h its.0 kept.0).1 h.label (sym its.1) in
      and_from _ _ (ap not (sym same.0 ∙ new.0.0)) (fresh held its.2 kept.1 new.1)

  vacant : (held : List (HeldKey Entry)) (v : ℕ) → are_of_blocks held ≡ true → HoldersKnow (rules (start n)) held log → AllNew n held → has v (labels_of held) ≡ true → IsVacant now (home_of v)
  vacant [] v are kept new h = absurd (cc)
  vacant (x ∷ held) v are kept new h = go (x.label == v) refl (vacant held v) h
    where
      its : (x.kind ≡ blocks) × (x.key ≡ home_of x.label) × (are_of_blocks held ≡ true)
      its = first_is x held are

      go : (b : Bool) → (x.label == v) ≡ b → (are_of_blocks held ≡ true → HoldersKnow (rules (start n)) held log → AllNew n held → has v (labels_of held) ≡ true → IsVacant now (home_of v)) → (b || has v (labels_of held)) ≡ true → IsVacant now (home_of v)
      go true e rest h =
          subst (λ (u : ℕ). IsVacant now (home_of u)) (eq_true x.label v e)
          (subst (IsVacant now) its.1 (vacant_later (start n) x.own log x.key legal (kept_block x its.0 kept.0) (subst (IsVacant (after (start n) x.own)) (sym its.1) new.0.1)))
      go false e rest h = rest its.2 kept.1 new.1 h

-- The event.

covers : (st : State) (log : List Entry) (p size : ℕ) (kepts : List ℕ) (mine : List Entry) (a b : List (HeldKey Entry)) → are_of_blocks b ≡ true
    → Covers st (pass_key p mine ∷ (only slots a ++ b)) log (Made (record { pass = p; size = size; event = Hand (key_of a) (labels_of b); life = 0; kepts = kepts }))
covers st log p size kepts mine a b are zero k other there = differ p k (λ i. other.0 (refl, i))
covers st log p size kepts mine a b are (suc zero) k other there = refl
covers st log p size kepts mine a b are (suc (suc zero)) k other there = differ (key_of a) k (λ i. other.1.0 (refl, i))
covers st log p size kepts mine a b are (suc (suc (suc zero))) k other there = refl
covers st log p size kepts mine a b are (suc (suc (suc (suc zero)))) k other there = refl
covers st log p size kepts mine a b are (suc (suc (suc (suc (suc zero))))) k other there = refl
covers st log p size kepts mine a b are (suc (suc (suc (suc (suc (suc zero)))))) k other there = none_there b k are other.1.1
covers st log p size kepts mine a b are (suc (suc (suc (suc (suc (suc (suc zero))))))) k other there = refl
covers st log p size kepts mine a b are (suc (suc (suc (suc (suc (suc (suc (suc zero)))))))) k other there = refl
covers st log p size kepts mine a b are (suc (suc (suc (suc (suc (suc (suc (suc (suc r))))))))) k other there = refl

-- where the machine comes by it, and its answer
abbrev pub handed_to : State → ℕ → ℕ → List ℕ → State × Answer
handed_to st s v puts = (record st { slots = slice_set st.slots s (slot_handed puts (slot_at st s)); gone = st.gone ++ v ∷ []; named = st.named ++ puts }, Handed v)

pub legal_hand : (size : ℕ) (st : State) (s v : ℕ) (puts : List ℕ) → of_call handing_at (slot_at st s).call ≡ Some v → are_fresh st.named puts ≡ true → next size st (Hand s puts) ≡ Some (handed_to st s v puts)
legal_hand size st s v puts is fresh = ap (hand scheme st s puts) is ∙ ap (λ (b : Bool). if b then Some (handed_to st s v puts) else None) fresh

some_of : (o : Option ℕ) → is_some o ≡ true → (v : ℕ) × (o ≡ Some v)
some_of None h = absurd (cc)
some_of (Some v) h = (v, refl)

pub unnamed : (named vs : List ℕ) (v : ℕ) → list_all (λ u. not (has u named)) vs ≡ true → has v vs ≡ true → has v named ≡ false
unnamed named [] v all h = absurd (cc)
unnamed named (x ∷ vs) v all h = go (x == v) refl (unnamed named vs v (and_true _ _ all).1) h
  where
    go : (b : Bool) → (x == v) ≡ b → (has v vs ≡ true → has v named ≡ false) → (b || has v vs) ≡ true → has v named ≡ false
    go true e rest h = not_true (has v named) (subst (λ (u : ℕ). not (has u named) ≡ true) (eq_true x v e) (and_true _ _ all).0)
    go false e rest h = rest h

-- values that lie apart, in blocks that are vacant, are the only ones there then
one_each : (size : ℕ) (st : State) (s v : ℕ) (puts : List ℕ) → Step size st (Hand s puts) (handed_to st s v puts) → LieApart puts → ((u : ℕ) → has u puts ≡ true → IsVacant st (home_of u)) → HasOne st → HasOne (handed_to st s v puts).0
one_each size st s v puts step apart vacant one u w home a b c e = go (either st.named puts u a) (either st.named puts w b) (was u c) (was w e)
  where
    was : (x : ℕ) → has x (st.gone ++ v ∷ []) ≡ false → has x st.gone ≡ false
    was x h = ⊎_elim (λ t. absurd (let f : true ≡ false = sym (gone_grows x size st (Hand s puts) (handed_to st s v puts) step t) ∙ h in cc)) (λ f. f) (is_true (has x st.gone))

    never : (x y : ℕ) → home_of y ≡ home_of x → has x puts ≡ true → has y st.named ≡ true → has y st.gone ≡ false → ⊥
    never x y same put named alive = let f : true ≡ false = sym (vacant x put y same named) ∙ alive in absurd (cc)

    go : (has u st.named ≡ true) ⊎ (has u puts ≡ true) → (has w st.named ≡ true) ⊎ (has w puts ≡ true) → has u st.gone ≡ false → has w st.gone ≡ false → u ≡ w
    go (inl x) (inl y) f g = one u w home x y f g
    go (inl x) (inr y) f g = absurd (never w u home y x f)
    go (inr x) (inl y) f g = absurd (never u w (sym home) x y g)
    go (inr x) (inr y) f g = one_of puts u w apart home x y

module _ (n : Name) (p size : ℕ) (kepts : List ℕ) (seen : List Entry) (a b : List (HeldKey Entry)) (one : is_one slots a ≡ true) (are : are_of_blocks b ≡ true) (apart : LieApart (labels_of b)) (new : AllNew n b) (enough : length (labels_of b) ≤ length kepts)
    (handing : is_some (of_call handing_at (slot_at (after (start n) (own_of a)) (key_of a)).call) ≡ true) where
  abbrev puts : List ℕ
  puts = labels_of b

  abbrev entry : Deed
  entry = record { pass = p; size = size; event = Hand (key_of a) puts; life = 0; kepts = kepts }

  module _ (log : List Entry) (before : Before n p seen (only slots a ++ b) log) where
    abbrev here : State
    here = after (start n) log

    -- the value that goes to its reclaimer
    goes : (v : ℕ) × (of_call handing_at (slot_at here (key_of a)).call ≡ Some v)
    goes = let known = some_of _ handing in (known.0, ap (λ slot. of_call handing_at slot.call) (sym before.kept.0.1.1) ∙ known.1)

    abbrev then_ : State × Answer
    then_ = handed_to here (key_of a) goes.0 puts

    all_fresh : are_fresh here.named puts ≡ true
    all_fresh = and_from _ _ (fresh n log before.legal b are before.kept.1 new) (distinct puts apart)

    legal : next size here (Hand (key_of a) puts) ≡ Some then_
    legal = legal_hand size here (key_of a) goes.0 puts goes.1 all_fresh

    step : Step size here (Hand (key_of a) puts) then_
    step = step_of size here (Hand (key_of a) puts) then_ legal

    all_vacant : (u : ℕ) → has u puts ≡ true → IsVacant here (home_of u)
    all_vacant u h = vacant n log before.legal b u are before.kept.1 new h

    fair : (mine : List Entry) → Fair n (pass_key p mine ∷ (only slots a ++ b)) log (Made entry)
    fair mine = record {
      done = then_;
      legal = legal;
      covers = covers (start n) log p size kepts mine a b are;
      names = λ many was there. (there.0, (λ k le. refl), (λ k le. none_past b many k are there.1.1 le), λ f le. refl);
      one = one_each size here (key_of a) goes.0 puts step apart all_vacant;
      leads = tt;
      labels = λ u named. ⊎_elim (λ was. inl was) (λ put. inr (inr (inr (is_label b u are put)), lent_of n b u new put)) (either here.named puts u named);
      says = enough;
      places = λ makes. absurd (cc);
    }

    -- Afterwards each is named and not loose, and all others of its block were reclaimed.
    module _ (links : are_distinct (linked_values n.links) ≡ true) (seen' : List Entry) (appended : seen' ≡ log ++ Made entry ∷ []) where
      leads : after (start n) seen' ≡ then_.0
      leads = ap (after (start n)) appended ∙ after_push (start n) log (Made entry) then_ before.legal legal

      spent_then : (v : ℕ) → has v puts ≡ true → IsSpent v then_.0
      spent_then v put = (in_second here.named puts v put, go (is_true (has v here.loose)))
        where
          go : (has v here.loose ≡ true) ⊎ (has v here.loose ≡ false) → has v here.loose ≡ false
          go (inl loose) =
              absurd (let e : true ≡ false = sym (loose_named here (reached_after n log links before.legal) v loose).0 ∙ unnamed here.named puts v (and_true _ _ all_fresh).0 put in cc)
          go (inr not_) = not_

      last_then : (v : ℕ) → has v puts ≡ true → IsLastIn v then_.0
      last_then v put w home other named = go (either here.named puts w named)
        where
          go : (has w here.named ≡ true) ⊎ (has w puts ≡ true) → has w (then_.0).gone ≡ true
          go (inl was) = gone_grows w size here (Hand (key_of a) puts) then_ step (all_vacant v put w home was)
          go (inr too) = absurd (other (one_of puts w v apart home too put))

      spent_in : (v : ℕ) → Contains puts v → IsSpent v (after (start n) seen')
      spent_in v c = subst (IsSpent v) (sym leads) (spent_then v (has_in puts v c))

      last_in : (v : ℕ) → Contains puts v → IsLastIn v (after (start n) seen')
      last_in v c = subst (IsLastIn v) (sym leads) (last_then v (has_in puts v c))

  pub may_hand : MayAdd n p seen (a ++ b) entry
  may_hand =
      subst (λ (hs : List (HeldKey Entry)). MayAdd n p seen (hs ++ b) entry) (sym (only_is slots a one))
      ((omega arith, blocks_within b are), (λ lives. refl), ((λ s. refl), λ st p. refl), λ mine log before. fair log before mine)

  -- what the keys know then
  pub put_so : (log seen' : List Entry) → Before n p seen (a ++ b) log → are_distinct (linked_values n.links) ≡ true → seen' ≡ log ++ Made entry ∷ []
      → ((v : ℕ) → Contains puts v → IsSpent v (after (start n) seen')) × ((v : ℕ) → Contains puts v → IsLastIn v (after (start n) seen'))
  put_so log seen' before links appended =
      let known = subst (λ (hs : List (HeldKey Entry)). Before n p seen (hs ++ b) log) (only_is slots a one) before in
      (spent_in log known links seen' appended, last_in log known links seen' appended)

-- With a slot's key, and the keys of the further values, that were found to be apart.
module _ (key : SlotKey) (further : ValueKeys) (pass : Pass) (apart : LieApart (values_of further)) (book : IsKeyOfBook key pass) (books : AreOfBook further pass) (handing : is_some (hands_next (slot_of key)) ≡ true) (new : AreNew further) where
  abbrev deed : Deed
  deed = deed_with_words pass (Hand (slot_number key) (values_of further)) (kepts_of further)

  handing_in : is_some (of_call handing_at (slot_at (after (start pass.name) (own_of key.keys.held)) (key_of key.keys.held)).call) ≡ true
  handing_in = subst (λ (n : Name). is_some (of_call handing_at (slot_at (after (start n) (own_of key.keys.held)) (key_of key.keys.held)).call) ≡ true) book handing

  new_in : AllNew pass.name further.keys.held
  new_in = subst (λ (n : Name). AllNew n further.keys.held) books new

  enough : length (values_of further) ≤ length (kepts_of further)
  enough = omega (arith, length-map further.keys.held (λ (h : HeldKey Entry). h.label), length-map further.keys.held (λ (h : HeldKey Entry). kept_in h.note))

  pub may_hand_with : IsWith key further.keys pass deed
  may_hand_with = ((λ log before. refl), may_hand pass.name pass.id pass.size (kepts_of further) pass.seen key.keys.held further.keys.held key.one further.each apart new_in enough handing_in)

  pub known_then : (pass' : Pass) (values : List ℕ) → values ≡ values_of further → pass'.name ≡ pass.name → are_distinct (linked_values pass.name.links) ≡ true → Knew key further.keys pass pass' deed
      → ((v : ℕ) → Contains values v → IsSpent v (after (start pass'.name) pass'.seen)) × ((v : ℕ) → Contains values v → IsLastIn v (after (start pass'.name) pass'.seen))
  known_then pass' values same name links knew =
      let known = put_so pass.name pass.id pass.size (kepts_of further) pass.seen key.keys.held further.keys.held key.one further.each apart new_in enough handing_in knew.0 pass'.seen knew.2 links knew.1 in (
        (λ v c. subst (λ (n : Name). IsSpent v (after (start n) pass'.seen)) (sym name) (known.0 v (subst (λ (vs : List ℕ). Contains vs v) same c))),
        (λ v c. subst (λ (n : Name). IsLastIn v (after (start n) pass'.seen)) (sym name) (known.1 v (subst (λ (vs : List ℕ). Contains vs v) same c))),
      )

pub none_new : (keys : ValueKeys) (pass : Pass) → IsEmpty keys pass → AreNew keys
none_new keys pass none = subst (AllNew (book_in keys)) (sym none.1) tt
