-- No more values come to a call's queue than what is in it and in its slot's batch weighs, where reclaimers put less than they are given.
use Rattle.std.proofs.Common.{◌≡◌, ℕ, suc, ◌+◌, ◌-◌, ◌≤◌, ◌<◌, Bool, true, false, if◌then◌else◌, List, [], ◌∷◌, ◌++◌, map, length, refl, sym, ap, subst, ◌∙◌, append-nil, append_assoc, arith}
use Rattle.std.specs.List.{sum, sum_by}
use Rattle.std.proofs.lemmas.List.{length-append}
use Rattle.std.proofs.lemmas.List.Sums.{sum_by-append, sum_by-cons}
use Rattle.seize_machine.specs.Machine.Next.{is_zero}
use Rattle.seize_book.specs.Loans.{loan_of}
use Rattle.seize_book.specs.Slots.{slot_of}
use Rattle.seize_book.specs.Values.{values_of}
use Rattle.seize_book.specs.declared.book.slot_key.SlotKey.{SlotKey}
use Rattle.seize_book.specs.declared.book.value_keys.ValueKeys.{ValueKeys}
use Rattle.seize_calls.specs.Handing.{AreTheirs, Had, Handings, TakesFirst, values_handed, values_put}
use Rattle.seize_calls.specs.Weights.{AreLight, AreWeighed, Weigh}
use Rattle.seize_calls.specs.Settling.{CallState, DrainsOne, Settles}

-- how many were put
abbrev pub puts_of : Had → ℕ
puts_of had = sum_by (λ one. length one.2) had

-- how many may still go through the queue, where no more than n are put
abbrev pub still_to_go : ℕ → Had → List ℕ → ℕ
still_to_go n had queue = n - puts_of had + length queue

-- the batch of the slot, and then the queue
abbrev pub all_of : SlotKey → ValueKeys → List ℕ
all_of key queue = (slot_of key).batch ++ values_of queue

module _ (weighs : ℕ → ℕ → Type 0) where
  abbrev Of : List ℕ → List ℕ → Type 0
  Of vs ms = Weigh weighs (map loan_of vs) ms

  -- no more than n were put, with all that may still be put where these are left
  abbrev pub AreWithin : List ℕ → Had → ℕ → Type 0
  AreWithin vs had n = (ms : List ℕ) × Of vs ms × (sum ms + puts_of had ≤ n)

  moved : (vs us : List ℕ) (had had' : Had) (n : ℕ) → us ≡ vs → had' ≡ had → AreWithin vs had n → AreWithin us had' n
  moved vs us had had' n e h within = (within.0, subst (λ (ws : List ℕ). Of ws within.0) (sym e) within.1, omega (arith, within.2, ap puts_of h))

  both : (a b ms ns : List ℕ) → Of a ms → Of b ns → Of (a ++ b) (ms ++ ns)
  both [] b [] ns x y = y
  both (v ∷ a) b (m ∷ ms) ns x y = (x.0, both a b ms ns x.1 y)
  both _ _ _ _ x _ = absurd x

  later : (a b ms : List ℕ) → Of (a ++ b) ms → (ns : List ℕ) × Of b ns × (sum ns ≤ sum ms)
  later [] b ms x = (ms, x, omega arith)
  later (v ∷ a) b [] x = absurd x
  later (v ∷ a) b (m ∷ ms) x = let rest = later a b ms x.1 in (rest.0, rest.1, omega (arith, rest.2, sum_by-cons (λ k. k) m ms))

  one_more : (vs ms : List ℕ) → Of vs ms → sum_by suc ms ≡ sum ms + length vs
  one_more [] [] x = refl
  one_more (v ∷ vs) (m ∷ ms) x = omega (arith, one_more vs ms x.1, sum_by-cons suc m ms, sum_by-cons (λ k. k) m ms)
  one_more _ _ x = absurd x

  are_light : (a b : Had) → AreLight weighs (a ++ b) → AreLight weighs b
  are_light [] b light = light
  are_light (one ∷ a) b light = are_light a b light.1

  -- there is a limit where both weigh something and none was put yet
  pub limits : (batch queue ls ks : List ℕ) → AreWeighed weighs ls → AreWeighed weighs ks → ls ≡ map loan_of batch → ks ≡ map loan_of queue → (n : ℕ) × AreWithin (batch ++ queue) [] n
  limits batch queue ls ks x y l k =
      let z = both batch queue x.0 y.0 (subst (λ (us : List ℕ). Weigh weighs us x.0) l x.1) (subst (λ (us : List ℕ). Weigh weighs us y.0) k y.1) in (sum (x.0 ++ y.0), (x.0 ++ y.0, z, omega arith))

  pub begins : (vs us : List ℕ) (had : Had) (n : ℕ) → us ≡ vs → AreWithin vs [] n → AreWithin us had (n + puts_of had)
  begins vs us had n e within = (within.0, subst (λ (ws : List ℕ). Of ws within.0) (sym e) within.1, omega (arith, within.2))

  module _ (once : (l m n : ℕ) → weighs l m → weighs l n → m ≡ n) where
    -- what is left, and then what was put with what was handed
    put_lighter : (handed : Handings) (kepts : List ℕ) (had : Had) (left ms : List ℕ) → AreTheirs handed kepts had → AreLight weighs had → Of (values_handed handed ++ left) ms
        → (ps : List ℕ) × Of (left ++ values_put handed) ps × (sum ps + puts_of had ≤ sum ms) × (puts_of had ≡ length (values_put handed))
    put_lighter [] [] [] left ms theirs light x = (ms, subst (λ (vs : List ℕ). Of vs ms) (sym (append-nil left)) x, omega arith, refl)
    put_lighter (h ∷ handed) (kept ∷ kepts) (one ∷ had) left [] theirs light x = absurd x
    put_lighter (h ∷ handed) (kept ∷ kepts) (one ∷ had) left (m ∷ ms) theirs light x =
        let n = light.0.0 in let ps = light.0.1 in let same : m ≡ n = once (loan_of h.0) m n x.0 (subst (λ (l : ℕ). weighs l n) (sym theirs.0.1) light.0.2) in
        let its : Of h.1 ps = subst (λ (vs : List ℕ). Of vs ps) theirs.0.2 light.0.3 in let vs = values_handed handed in
        let rest = put_lighter handed kepts had (left ++ h.1) (ms ++ ps) theirs.1 light.1 (subst (λ (us : List ℕ). Of us (ms ++ ps)) (append_assoc vs left h.1) (both (vs ++ left) h.1 ms ps x.1 its)) in
        let puts = sum_by-cons (λ (o : ℕ × _ × List ℕ × List ℕ). length o.2) one had in let long : length one.2 ≡ length h.1 = ap (λ (us : List ℕ). length us) theirs.0.2 in (
          rest.0,
          subst (λ (us : List ℕ). Of us rest.0) (append_assoc left h.1 (values_put handed)) rest.1,
          omega (arith, rest.2, light.0.4, same, puts, long, one_more h.1 ps its, sum_by-append (λ k. k) ms ps, sum_by-cons (λ k. k) m ms),
          omega (arith, rest.3, puts, long, length-append h.1 (values_put handed)),
        )
    put_lighter _ _ _ _ _ theirs _ _ = absurd theirs

    abbrev GoesOn : CallState → CallState → ℕ → Type 0
    GoesOn a b n = AreWithin (all_of b.key b.queue) b.had n × (puts_of b.had + length (values_of a.queue) ≡ puts_of a.had + length (values_of b.queue))

    settled_so : (least : ℕ) (a b : CallState) (retired : Bool) (n : ℕ) → Settles least a b retired → AreLight weighs b.had → AreWithin (all_of a.key a.queue) a.had n → GoesOn a b n
    settled_so least a b false n stays light within =
        let queue = stays.queued.1 ∙ append-nil (values_of a.queue) in
        (moved (all_of a.key a.queue) (all_of b.key b.queue) a.had b.had n (λ i. stays.batch i ++ queue i) stays.had_none within, omega (arith, ap puts_of stays.had_none, ap (λ (vs : List ℕ). length vs) queue))
    settled_so least a b true n goes light within = gone_so (is_zero goes.count) refl
      where
        gone : (vs ms : List ℕ) → values_handed goes.handed ≡ vs → Of (vs ++ values_of a.queue) ms → sum ms ≤ sum within.0 → GoesOn a b n
        gone vs ms which x less =
            let had = goes.has_had in let left = values_of a.queue in let light' = are_light a.had had.more (subst (AreLight weighs) had.after light) in
            let put = put_lighter goes.handed _ had.more left ms had.theirs light' (subst (λ (us : List ℕ). Of (us ++ left) ms) (sym which) x) in
            let more = ap puts_of had.after ∙ sum_by-append (λ (o : ℕ × _ × List ℕ × List ℕ). length o.2) a.had had.more in (
              (put.0, subst (λ (us : List ℕ). Of us put.0) (λ i. sym goes.batch i ++ sym goes.queued.1 i) put.1, omega (arith, within.2, less, put.2, more)),
              omega (arith, put.3, more, ap (λ (us : List ℕ). length us) goes.queued.1 ∙ length-append left (values_put goes.handed)),
            )

        gone_so : (zero : Bool) → is_zero goes.count ≡ zero → GoesOn a b n
        gone_so true e = gone (slot_of a.key).batch within.0 (goes.which ∙ ap (λ (z : Bool). if z then (slot_of a.key).batch else []) e) within.1 (omega arith)
        gone_so false e =
            let rest = later (slot_of a.key).batch (values_of a.queue) within.0 within.1 in gone [] rest.0 (goes.which ∙ ap (λ (z : Bool). if z then (slot_of a.key).batch else []) e) rest.1 rest.2

    -- **Each round leaves fewer.**
    pub round_lighter : (queue : ValueKeys) (a : CallState) (v kept : ℕ) (b : CallState) (retired : Bool) (n : ℕ) → TakesFirst queue v kept a.queue → DrainsOne a v kept b retired → AreLight weighs b.had
        → AreWithin (all_of a.key queue) a.had n → AreWithin (all_of b.key b.queue) b.had n × (still_to_go n b.had (values_of b.queue) < still_to_go n a.had (values_of queue))
    round_lighter queue a v kept b retired n takes round light within =
        let full = round.full in let batch = (slot_of a.key).batch in let left = ap values_of round.same.0 in
        let same = (λ i. round.puts.batch i ++ left i) ∙ append_assoc batch (v ∷ []) (values_of a.queue) ∙ ap (λ (vs : List ℕ). batch ++ vs) (sym takes.1) in
        let on = settled_so _ full b retired n round.settles light (moved (all_of a.key queue) (all_of full.key full.queue) a.had full.had n same round.same.1 within) in
        (on.0, omega (arith, on.0.2, on.1, ap (λ (vs : List ℕ). length vs) takes.1, ap (λ (vs : List ℕ). length vs) left, ap puts_of round.same.1))
