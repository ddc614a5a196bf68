-- Steps on a link's word by whoever has an activation of a slot meet what is asked of a step.
use Rattle.std.proofs.Common.{◌≡◌, ℕ, zero, suc, ◌<◌, ◌≤◌, Bool, true, false, inl, inr, ⊎_elim, not, ◌&&◌, ◌||◌, nat_lt, List, [], ◌∷◌, ◌++◌, length, Option, Some, None, refl, sym, ◌∙◌, ap, subst, append-nil, arith}
use Rattle.std.proofs.lemmas.List.{get_or-set_same}
use Rattle.seize_machine.specs.Machine.State.{State, head_at, link_at, is_active, has}
use Rattle.seize_machine.specs.Machine.Event.{ReadLink, ExchangeLink}
use Rattle.seize_machine.specs.Machine.Next.{can_link, is_none_or_fresh, is_stored, new_link}
use Rattle.seize_machine.specs.declared.machine.event.Answer.{Answer}
use Rattle.seize_machine.specs.declared.machine.event.Answer.TheVariants.{Link as Held_}
use Rattle.seize_machine.specs.declared.machine.event.Exchange.{Exchange}
use Rattle.seize_machine.proofs.Facts.{Step, eq_true, next_of, swapped}
use Rattle.seize_book.specs.Blocks.{link_word}
use Rattle.seize_book.specs.Book.{IsLegalList, HolderKnows, TheBlock, after, blocks, rules, Does, kind_of}
use Rattle.seize_book.specs.Entry.{Entry, Made}
use Rattle.seize_book.specs.Fair.{Covers, IsLabel, NamesHeld, NamesLabels, pass_key}
use Rattle.seize_book.specs.Ledger.{HeldKey, HoldersKnow, AllThere, Beside, with_list}
use Rattle.seize_book.specs.Homes.{HasOne, IsVacant, home_of, is_home}
use Rattle.seize_book.specs.Pairs.{AreCovered, unless_first, pair_if}
use Rattle.seize_words.specs.Links.{at_link, IsNewIn, IsPairAllowed}
use Rattle.seize_book.specs.Laws.{IsAmong}
use Rattle.seize_words.specs.Stepping.{FoundAs, HasSteppedWith, IsStep, IsStepFor, in_step}
use Rattle.seize_book.specs.Loans.{CarriesOne}
use Rattle.seize_book.specs.Tokens.{Name, start}
use Rattle.seize_words.specs.Words.{IsKeyOf, Site}
use Rattle.seize_book.proofs.Facts.{after_push, differ, new_named, old_named, pushed, vacant_later}

-- what is found while several activations last is found while the first does
pub among_first : (a b : ℕ) (others : List ℕ) → IsAmong (a ∷ []) b → IsAmong (a ∷ others) b
among_first a b others (inl is) = inl is
among_first a b others (inr none) = absurd none

abbrev pub found_first : (a : ℕ) (others : List ℕ) {site : Site} {v p : ℕ} {seen : List Entry} {held : List (HeldKey Entry)} {t : List Entry × List (HeldKey Entry)} {log : List Entry} → FoundAs site v p seen held (a ∷ others) t log → FoundAs site v p seen held (a ∷ []) t log
found_first a others found = record { shows = found.shows; stands = found.stands; before = found.before; none_ended = λ b among. found.none_ended b (among_first a b others among); distinct = found.distinct }

-- and so is what is known after a step
abbrev pub stepped_first : (a : ℕ) (others : List ℕ) {births : List (ℕ × ℕ)} {site : Site} {p : ℕ} {seen seen' : List Entry} {held held' : List (HeldKey Entry)} {v w : ℕ} {entry : ℕ → List Entry → Entry} {trades : ℕ → Bool}
    → HasSteppedWith births site p seen seen' held held' (a ∷ others) v w entry trades → HasSteppedWith births site p seen seen' held held' (a ∷ []) v w entry trades
stepped_first a others stepped = record { log = stepped.log; noted = stepped.noted; is_log = stepped.is_log; since = stepped.since; found = found_first a others stepped.found; left = stepped.left; keys = stepped.keys }

-- the keys of what a link holds, later
pub key_later : (o : Option ℕ) (vs : List (HeldKey Entry)) (log : List Entry) → IsKeyOf o vs → IsKeyOf o (with_list vs log)
key_later None vs log is = ap (λ (hs : List (HeldKey Entry)). with_list hs log) is
key_later (Some v) [] log is = is
key_later (Some v) (x ∷ y ∷ vs) log is = is
key_later (Some v) (x ∷ []) log is = is

pub legal_link : (st : State) (s l : ℕ) → is_active (head_at st s) ≡ true → l < length st.links → can_link st s l ≡ true
legal_link st s l on within = both (is_active (head_at st s)) (nat_lt l (length st.links)) on (grind arith)
  where
    both : (a b : Bool) → a ≡ true → b ≡ true → (a && b) ≡ true
    both true true x y = refl
    both true false x y = absurd (cc)
    both false b x y = absurd (cc)

-- A value's key is among those that are held, and so is what it says.

beside_both : (a b : List (HeldKey Entry)) (r k : ℕ) → Beside (a ++ b) r k → Beside a r k × Beside b r k
beside_both [] b r k h = (tt, h)
beside_both (x ∷ a) b r k h = let rest = beside_both a b r k h.1 in ((h.0, rest.0), rest.1)

there_both : (many : ℕ → ℕ) (a b : List (HeldKey Entry)) → AllThere many (a ++ b) → AllThere many a × AllThere many b
there_both many [] b h = (tt, h)
there_both many (x ∷ a) b h = let rest = there_both many a b h.1 in ((h.0, rest.0), rest.1)

pub kept_right : (st : State) (a b : List (HeldKey Entry)) (log : List Entry) → HoldersKnow (rules st) (a ++ b) log → HoldersKnow (rules st) b log
kept_right st [] b log h = h
kept_right st (x ∷ a) b log h = kept_right st a b log h.1

other_value : (o : Option ℕ) (vs : List (HeldKey Entry)) (k : ℕ) → IsKeyOf o vs → Beside vs blocks k → is_home k o ≡ false
other_value None vs k is b = refl
other_value (Some v) [] k is b = absurd (let x : false ≡ true = is.0 in cc)
other_value (Some v) (x ∷ y ∷ vs) k is b = absurd (let x : false ≡ true = is.0 in cc)
other_value (Some v) (x ∷ []) k is b = differ (home_of v) k (λ e. b.0 (sym (eq_true x.kind blocks is.0), e ∙ sym is.1))

past_value : (many : ℕ → ℕ) (o : Option ℕ) (vs : List (HeldKey Entry)) (k : ℕ) → IsKeyOf o vs → AllThere many vs → many blocks ≤ k → is_home k o ≡ false
past_value many None vs k is there le = refl
past_value many (Some v) [] k is there le = absurd (let x : false ≡ true = is.0 in cc)
past_value many (Some v) (x ∷ y ∷ vs) k is there le = absurd (let x : false ≡ true = is.0 in cc)
past_value many (Some v) (x ∷ []) k is there le =
    let kind : x.kind ≡ blocks = eq_true x.kind blocks is.0 in let l : home_of v < many blocks = subst (λ (z : ℕ). home_of v < many z) kind (subst (λ (z : ℕ). z < many x.kind) is.1 there.0) in
    differ (home_of v) k (λ e. omega (arith, e, l, le))

pub is_key : (n : Name) (o : Option ℕ) (vs : List (HeldKey Entry)) → IsNewIn n o vs → IsKeyOf o vs
is_key n None vs new = new
is_key n (Some v) vs new = new.0

-- what the key of a value's block says
block_kept : (st : State) (v : ℕ) (x : HeldKey Entry) (log : List Entry) → IsKeyOf (Some v) (x ∷ []) → (rules st).Knows x.kind x.key x.own log → HolderKnows st TheBlock (home_of v) x.own log
block_kept st v x log is kept = subst (λ (t : ℕ × ℕ). HolderKnows st (kind_of t.0) t.1 x.own log) (λ j. (eq_true x.kind blocks is.0 j, is.1 j)) kept

value_kept : (st : State) (v : ℕ) (x : HeldKey Entry) (log : List Entry) → IsKeyOf (Some v) (x ∷ []) → (rules st).Knows x.kind x.key x.own log
    → (has v (after st x.own).named ≡ has v (after st log).named) × (has v (after st x.own).loose ≡ has v (after st log).loose)
value_kept st v x log is kept = (block_kept st v x log is kept).1 v refl

-- a value that its key knows to be new is new
pub still_new : (n : Name) (o : Option ℕ) (vs : List (HeldKey Entry)) (log : List Entry) → IsNewIn n o vs → HoldersKnow (rules (start n)) vs log → is_none_or_fresh (after (start n) log) o ≡ true
still_new n None vs log new kept = refl
still_new n (Some v) [] log new kept = absurd (let x : false ≡ true = new.0.0 in cc)
still_new n (Some v) (x ∷ y ∷ vs) log new kept = absurd (let x : false ≡ true = new.0.0 in cc)
still_new n (Some v) (x ∷ []) log new kept =
    ap not (sym (value_kept (start n) v x log new.0 kept.0).0 ∙ new.1)

-- and its block is vacant still
pub still_vacant : (n : Name) (v : ℕ) (vs : List (HeldKey Entry)) (log : List Entry) → IsLegalList (start n) log → IsNewIn n (Some v) vs → HoldersKnow (rules (start n)) vs log → IsVacant (after (start n) log) (home_of v)
still_vacant n v [] log l new kept = absurd (let x : false ≡ true = new.0.0 in cc)
still_vacant n v (x ∷ y ∷ vs) log l new kept = absurd (let x : false ≡ true = new.0.0 in cc)
still_vacant n v (x ∷ []) log l new kept = vacant_later (start n) x.own log (home_of v) l (block_kept (start n) v x log new.0 kept.0) new.2

or_both : (a b : Bool) → a ≡ false → b ≡ false → (a || b) ≡ false
or_both false b x y = y
or_both true b x y = absurd (cc)

label_here : (held : List (HeldKey Entry)) (w u : ℕ) → IsKeyOf (Some w) held → u ≡ w → IsLabel held u
label_here [] w u is e = absurd (let x : false ≡ true = is.0 in cc)
label_here (x ∷ y ∷ held) w u is e = absurd (let x : false ≡ true = is.0 in cc)
label_here (x ∷ []) w u is e = inl (eq_true x.kind blocks is.0, is.2 ∙ sym e)

label_beside : (vs held : List (HeldKey Entry)) (u : ℕ) → IsLabel held u → IsLabel (vs ++ held) u
label_beside [] held u is = is
label_beside (x ∷ vs) held u is = inr (label_beside vs held u is)

-- an exchange that is lost makes no pair
none_bound : (ks : List ℕ) (p : ℕ) → AreCovered ks (unless_first p [])
none_bound ks zero = tt
none_bound ks (suc p) = tt

module _ (n : Name) (l : ℕ) where
  abbrev st : State
  st = start n

  abbrev At : Type 0
  At = List Entry × List (HeldKey Entry)

  -- what the link holds is what its word shows
  pub same : (v p : ℕ) (seen : List Entry) (held : List (HeldKey Entry)) (alive : List ℕ) (t : At) (log : List Entry) → FoundAs (at_link n l) v p seen held alive t log → link_at (after st t.0) l ≡ link_at (after st log) l
  same v p seen held alive t log found = found.before.kept.0.1

  module _ (v p size s : ℕ) (seen : List Entry) (held : List (HeldKey Entry)) (alive : List ℕ) (t : At) (own log : List Entry) (found : FoundAs (at_link n l) v p seen held alive t log)
      (on : is_active (head_at (after st log) s) ≡ true) (within : l < length (after st log).links) where
    reads : Entry
    reads = Made (record { pass = p; size = size; event = ReadLink s l; life = 0; kepts = [] })

    -- a read
    pub read_step : IsStep (at_link n l) p held [] v (Made (record { pass = p; size = size; event = ReadLink s l; life = 0; kepts = [] })) false t own log
    unfolding reads
    read_step =
        let now : State = after st log in let d : State × Answer = (now, Held_ (link_at now l)) in
        let does : Does st log reads d = next_of size now (ReadLink s l) d (Step.read s l (legal_link now s l on within)) in
        let push : link_at (after st (log ++ reads ∷ [])) l ≡ link_at now l = ap (λ (z : State). link_at z l) (after_push st log reads d found.before.legal does) in
        let is : link_at (after st t.0) l ≡ link_at (after st (log ++ reads ∷ [])) l = same v p seen held alive t log found ∙ sym push in
        record {
          fair = record { done = d; legal = does; covers = covers; names = λ many was there. (there.0, (λ k le. refl), (λ k le. refl), λ f le. refl); one = λ one. one; leads = tt; labels = λ u named. inl named; says = omega arith; places = λ makes. absurd (cc) };
          its = refl;
          bears = refl;
          ends = λ a i. absurd i;
          covered = tt;
          shows = found.shows ∙ ap link_word is;
          stands = subst (λ (o : Option ℕ). IsKeyOf o (with_list t.1 (log ++ reads ∷ []))) is (key_later (link_at (after st t.0) l) t.1 (log ++ reads ∷ []) found.stands);
        }
      where
        covers : Covers st (pass_key p own ∷ in_step (at_link n l) held t) log (Made (record { pass = p; size = size; event = ReadLink s l; life = 0; kepts = [] }))
        covers zero k beside there = differ p k (λ i. beside.0 (refl, i))
        covers (suc zero) k beside there = refl
        covers (suc (suc zero)) k beside there = refl
        covers (suc (suc (suc zero))) k beside there = refl
        covers (suc (suc (suc (suc zero)))) k beside there = refl
        covers (suc (suc (suc (suc (suc zero))))) k beside there = refl
        covers (suc (suc (suc (suc (suc (suc zero)))))) k beside there = refl
        covers (suc (suc (suc (suc (suc (suc (suc zero))))))) k beside there = refl
        covers (suc (suc (suc (suc (suc (suc (suc (suc zero)))))))) k beside there = refl
        covers (suc (suc (suc (suc (suc (suc (suc (suc (suc r))))))))) k beside there = refl

    -- An exchange, with the keys of the value that it would store.
    module _ (o : Option ℕ) (exchange : Exchange) (for : new_link exchange ≡ o) (new : IsNewIn n o held) where
      abbrev pub exchanges : Entry
      exchanges = Made (record { pass = p; size = size; event = ExchangeLink s l exchange; life = 0; kepts = [] })

      abbrev now : State
      now = after st log

      abbrev all : List (HeldKey Entry)
      all = pass_key p own ∷ in_step (at_link n l) held t

      -- the keys of what the link holds are there
      here : IsKeyOf (link_at now l) t.1
      here = subst (λ (x : Option ℕ). IsKeyOf x t.1) (same v p seen held alive t log found) found.stands

      covers_exchange : Covers st all log (Made (record { pass = p; size = size; event = ExchangeLink s l exchange; life = 0; kepts = [] }))
      covers_exchange zero k beside there = differ p k (λ i. beside.0 (refl, i))
      covers_exchange (suc zero) k beside there = refl
      covers_exchange (suc (suc zero)) k beside there = refl
      covers_exchange (suc (suc (suc zero))) k beside there = refl
      covers_exchange (suc (suc (suc (suc zero)))) k beside there = differ l k (λ i. beside.1.0 (refl, i))
      covers_exchange (suc (suc (suc (suc (suc zero))))) k beside there = refl
      covers_exchange (suc (suc (suc (suc (suc (suc zero)))))) k beside there = let b = beside_both t.1 held blocks k beside.1.1 in
          or_both (is_home k (new_link exchange)) (is_home k (link_at now l)) (ap (is_home k) for ∙ other_value o held k (is_key n o held new) b.1) (other_value (link_at now l) t.1 k here b.0)
      covers_exchange (suc (suc (suc (suc (suc (suc (suc zero))))))) k beside there = refl
      covers_exchange (suc (suc (suc (suc (suc (suc (suc (suc zero)))))))) k beside there = refl
      covers_exchange (suc (suc (suc (suc (suc (suc (suc (suc (suc r))))))))) k beside there = refl

      names_exchange : NamesHeld st all log (Made (record { pass = p; size = size; event = ExchangeLink s l exchange; life = 0; kepts = [] }))
      names_exchange many was there = let h = there_both many t.1 held there.1.1 in (
        there.0,
        (λ w le. refl),
        (λ w le. or_both (is_home w (new_link exchange)) (is_home w (link_at now l)) (ap (is_home w) for ∙ past_value many o held w (is_key n o held new) h.1 le) (past_value many (link_at now l) t.1 w here h.0 le)),
        λ f le. refl,
      )

      fresh : is_none_or_fresh now o ≡ true
      fresh = still_new n o held log new (kept_right st t.1 held log found.before.kept.1)

      -- and what lay in its block before was reclaimed
      one_stored : (o : Option ℕ) → IsNewIn n o held → Step size now (ExchangeLink s l exchange) (swapped now l o, Held_ (link_at now l)) → HasOne now → HasOne (swapped now l o)
      one_stored None new step = old_named size now (ExchangeLink s l exchange) (swapped now l None, Held_ (link_at now l)) step (λ u h. subst (λ (vs : List ℕ). has u vs ≡ true) (append-nil now.named) h)
      one_stored (Some w) new step =
          new_named size now (ExchangeLink s l exchange) (swapped now l (Some w), Held_ (link_at now l)) w step (pushed w now.named) (still_vacant n w held log found.before.legal new (kept_right st t.1 held log found.before.kept.1))

      -- the value that it names is the one with which the key is labelled
      labels_stored : (o : Option ℕ) → IsNewIn n o held → NamesLabels now all (swapped now l o)
      labels_stored None new u named = inl (subst (λ (vs : List ℕ). has u vs ≡ true) (append-nil now.named) named)
      labels_stored (Some w) new u named =
          ⊎_elim (λ is. inr (inr (inr (label_beside t.1 held u (label_here held w u new.0 is))), subst CarriesOne (sym is) new.3)) (λ was. inl was) (pushed w now.named u named)

      -- it stores the value
      pub store_step : (allowed : List ℕ) (w : ℕ) → w ≡ link_word o → is_stored (link_at now l) exchange ≡ true → IsPairAllowed allowed p l (link_at now l) o
          → IsStepFor allowed [] (at_link n l) p held [] w (Made (record { pass = p; size = size; event = ExchangeLink s l exchange; life = 0; kepts = [] })) true t own log
      store_step allowed w word stored pair =
          let d : State × Answer = (swapped now l o, Held_ (link_at now l)) in
          let step : Step size now (ExchangeLink s l exchange) d = Step.exchanged s l exchange o (legal_link now s l on within) fresh (sym for, stored) in
          let does : Does st log exchanges d = next_of size now (ExchangeLink s l exchange) d step in
          let is : link_at (after st (log ++ exchanges ∷ [])) l ≡ o = ap (λ (z : State). link_at z l) (after_push st log exchanges d found.before.legal does) ∙ get_or-set_same now.links l o None within in
          record {
            fair = record { done = d; legal = does; covers = covers_exchange; names = names_exchange; one = one_stored o new step; leads = tt; labels = labels_stored o new; says = omega arith; places = λ makes. absurd (cc) };
            its = refl;
            bears = refl;
            ends = λ a i. absurd i;
            covered = subst (AreCovered allowed) (λ j. unless_first p (pair_if (sym stored j) l (link_at now l) (sym for j))) pair;
            shows = word ∙ ap link_word (sym is);
            stands = subst (λ (x : Option ℕ). IsKeyOf x (with_list held (log ++ exchanges ∷ []))) (sym is) (key_later o held (log ++ exchanges ∷ []) (is_key n o held new));
          }

      -- one that finds something else is legal, and leaves all as it is
      pub miss_does : is_stored (link_at now l) exchange ≡ false → Does st log exchanges (now, Held_ (link_at now l))
      miss_does stored =
          next_of size now (ExchangeLink s l exchange) (now, Held_ (link_at now l)) (Step.compared s l exchange (legal_link now s l on within) (ap (is_none_or_fresh now) for ∙ fresh, stored))

      pub miss_step : (allowed : List ℕ) → is_stored (link_at now l) exchange ≡ false
          → IsStepFor allowed [] (at_link n l) p held [] v (Made (record { pass = p; size = size; event = ExchangeLink s l exchange; life = 0; kepts = [] })) false t own log
      miss_step allowed stored =
          let d : State × Answer = (now, Held_ (link_at now l)) in
          let does : Does st log exchanges d = miss_does stored in
          let is : link_at (after st t.0) l ≡ link_at (after st (log ++ exchanges ∷ [])) l = same v p seen held alive t log found ∙ sym (ap (λ (z : State). link_at z l) (after_push st log exchanges d found.before.legal does)) in
          record {
            fair = record { done = d; legal = does; covers = covers_exchange; names = names_exchange; one = λ one. one; leads = tt; labels = λ u named. inl named; says = omega arith; places = λ makes. absurd (cc) };
            its = refl;
            bears = refl;
            ends = λ a i. absurd i;
            covered = subst (AreCovered allowed) (λ j. unless_first p (pair_if (sym stored j) l (link_at now l) (new_link exchange))) (none_bound allowed p);
            shows = found.shows ∙ ap link_word is;
            stands = subst (λ (x : Option ℕ). IsKeyOf x (with_list t.1 (log ++ exchanges ∷ []))) is (key_later (link_at (after st t.0) l) t.1 (log ++ exchanges ∷ []) found.stands);
          }
