-- An attempt as events: the reads of all heads, the detaching, the insertions and the add.
use Rattle.std.proofs.Common.{◌≡◌, ℕ, ◌+◌, ◌<◌, ◌≤◌, pos, ◌+ℤ◌, Bool, true, false, ◌==◌, if◌then◌else◌, nat_lt, List, [], ◌∷◌, ◌++◌, length, map, set, Some, refl, sym, ◌∙◌, ap, subst, arith, append_assoc, append-nil}
use Rattle.std.proofs.Math.Seq.{get_or-append_seam, set-append_seam}
use Rattle.std.proofs.lemmas.List.{length-append}
use Rattle.seize_machine.specs.Machine.State.{State, Head, Inactive, Active, Batch, Place, Mark, Add, Rest, head_at, batch_at, is_active, no_batch}
use Rattle.seize_machine.specs.Machine.Event.{ReadHead, Detach, Insert, AddCount}
use Rattle.seize_machine.specs.Machine.Next.{next, look, marked_place, looked}
use Rattle.seize_machine.specs.declared.machine.event.Try.TheVariants.{Won}
use Rattle.seize_machine.specs.declared.machine.event.Answer.TheVariants.{Done, Head as Found}
use Rattle.seize_machine.proofs.Facts.{lt_true}
use Rattle.seize_model.proofs.Simulation.Paths.{Path, and_then, same_state}
use Rattle.seize_model.proofs.Simulation.Determinism.{only_mark, only_detach, only_look, only_insert, only_add}
use Rattle.seize_model.proofs.Simulation.Events.{busy, mark_step, detach_step, look_step, insert_step, add_step, with_batch, with_count, counted_place}
use Rattle.seize_model.proofs.Cases.{if_yes}

-- the numbers of the active heads, where the first of these heads has number n
abbrev pub actives : ℕ → List Head → List ℕ
actives n [] = []
actives n (h ∷ hs) = if is_active h then n ∷ actives (n + 1) hs else actives (n + 1) hs

-- a head with batch b in front
abbrev pub with_front : ℕ → Head → Head
with_front b Inactive = Inactive
with_front b (Active waiting) = Active (b ∷ waiting)

abbrev pub with_heads : State → List Head → State
with_heads base heads = record base { heads = heads }

read : (size : ℕ) (base : State) (s n note : ℕ) (batch marked queue : List ℕ) (pre hs : List Head) (head : Head) → n ≡ length pre → s < length base.slots → n < length base.slots
    → next size (busy (with_heads base (pre ++ head ∷ hs)) s batch (Mark n note marked) queue) (ReadHead s n)
    ≡ Some (busy (with_heads base (pre ++ head ∷ hs)) s batch (marked_place (is_active head) n note marked batch) queue, Found (is_active head))
read size base s n note batch marked queue pre hs head e h k =
    let st : State = with_heads base (pre ++ head ∷ hs) in
    let is : head_at st n ≡ head = rw e (get_or-append_seam pre head hs Inactive) in
    mark_step size st s n note batch marked queue h k
    ∙ ap (λ (x : Head). Some (busy st s batch (marked_place (is_active x) n note marked batch) queue, Found (is_active x))) is

pub marks_on : (size : ℕ) (base : State) (s n note : ℕ) (batch marked queue : List ℕ) (pre hs : List Head) → n ≡ length pre → s < length base.slots
    → length pre + length hs ≡ length base.slots → length marked + length (actives n hs) ≤ length batch → length base.slots ≤ note
    → Path size s (busy (with_heads base (pre ++ hs)) s batch (Mark n note marked) queue) (busy (with_heads base (pre ++ hs)) s batch (Mark (length base.slots) note (marked ++ actives n hs)) queue)
marks_on size base s n note batch marked queue pre [] e h r le many =
    let all : n ≡ length base.slots = omega arith in
    same_state size s _ _ (ap (λ k. busy (with_heads base (pre ++ [])) s batch (Mark k note marked) queue) all ∙ ap (λ l. busy (with_heads base (pre ++ [])) s batch (Mark (length base.slots) note l) queue) (sym (append-nil marked)))
marks_on size base s n note batch marked queue pre (Inactive ∷ hs) e h r le many =
    let len : length (pre ++ Inactive ∷ []) ≡ length pre + 1 = length-append pre (Inactive ∷ []) in
    Path.goes _ (ReadHead s n) _ _ _ (read size base s n note batch marked queue pre hs Inactive e h (omega arith)) refl (refl, refl, refl)
    (only_mark size (with_heads base (pre ++ Inactive ∷ hs)) s n note batch marked queue h (omega arith))
    (subst (λ (l : List Head). Path size s (busy (with_heads base l) s batch (Mark (n + 1) note marked) queue) (busy (with_heads base l) s batch (Mark (length base.slots) note (marked ++ actives (n + 1) hs)) queue))
    (append_assoc pre (Inactive ∷ []) hs)
    (marks_on size base s (n + 1) note batch marked queue (pre ++ Inactive ∷ []) hs (omega arith) h (omega arith) le many))
marks_on size base s n note batch marked queue pre (Active w ∷ hs) e h r le many =
    let len : length (pre ++ Active w ∷ []) ≡ length pre + 1 = length-append pre (Active w ∷ []) in
    let more : length (marked ++ n ∷ []) ≡ length marked + 1 = length-append marked (n ∷ []) in
    let st : State = with_heads base (pre ++ Active w ∷ hs) in
    let room : nat_lt (length marked) (length batch) ≡ true = grind arith in
    Path.goes _ (ReadHead s n) _ _ _
    (read size base s n note batch marked queue pre hs (Active w) e h (omega arith)
    ∙ ap (λ (p : Place). Some (busy st s batch p queue, Found true)) (if_yes (nat_lt (length marked) (length batch)) (Mark (n + 1) note (marked ++ n ∷ [])) (Rest [] []) room))
    refl (refl, refl, refl) (only_mark size st s n note batch marked queue h (omega arith))
    (subst (λ (m : List ℕ). Path size s (busy st s batch (Mark (n + 1) note (marked ++ n ∷ [])) queue) (busy st s batch (Mark (length base.slots) note m) queue))
    (append_assoc marked (n ∷ []) (actives (n + 1) hs))
    (subst (λ (l : List Head). Path size s (busy (with_heads base l) s batch (Mark (n + 1) note (marked ++ n ∷ [])) queue) (busy (with_heads base l) s batch (Mark (length base.slots) note ((marked ++ n ∷ []) ++ actives (n + 1) hs)) queue))
    (append_assoc pre (Active w ∷ []) hs)
    (marks_on size base s (n + 1) note batch (marked ++ n ∷ []) queue (pre ++ Active w ∷ []) hs (omega arith) h (omega arith) (omega arith) many)))

-- the marking gives up where more slots are active than there are values
pub marks_stop : (size : ℕ) (base : State) (s n note : ℕ) (batch marked queue : List ℕ) (pre hs : List Head) → n ≡ length pre → s < length base.slots
    → length pre + length hs ≡ length base.slots → length marked ≤ length batch → length batch < length marked + length (actives n hs) → length base.slots ≤ note
    → Path size s (busy (with_heads base (pre ++ hs)) s batch (Mark n note marked) queue) (busy (with_heads base (pre ++ hs)) s batch (Rest [] []) queue)
marks_stop size base s n note batch marked queue pre [] e h r room lt many = absurd (omega arith)
marks_stop size base s n note batch marked queue pre (Inactive ∷ hs) e h r room lt many =
    let len : length (pre ++ Inactive ∷ []) ≡ length pre + 1 = length-append pre (Inactive ∷ []) in
    Path.goes _ (ReadHead s n) _ _ _ (read size base s n note batch marked queue pre hs Inactive e h (omega arith)) refl (refl, refl, refl)
    (only_mark size (with_heads base (pre ++ Inactive ∷ hs)) s n note batch marked queue h (omega arith))
    (subst (λ (l : List Head). Path size s (busy (with_heads base l) s batch (Mark (n + 1) note marked) queue) (busy (with_heads base l) s batch (Rest [] []) queue))
    (append_assoc pre (Inactive ∷ []) hs)
    (marks_stop size base s (n + 1) note batch marked queue (pre ++ Inactive ∷ []) hs (omega arith) h (omega arith) room lt many))
marks_stop size base s n note batch marked queue pre (Active w ∷ hs) e h r room lt many =
    let len : length (pre ++ Active w ∷ []) ≡ length pre + 1 = length-append pre (Active w ∷ []) in
    Path.goes _ (ReadHead s n) _ _ _ (read size base s n note batch marked queue pre hs (Active w) e h (omega arith)) refl (refl, refl, refl)
    (only_mark size (with_heads base (pre ++ Active w ∷ hs)) s n note batch marked queue h (omega arith))
    (go (nat_lt (length marked) (length batch)) refl (λ is.
    let more : length (marked ++ n ∷ []) ≡ length marked + 1 = length-append marked (n ∷ []) in
    let fits : length marked < length batch = lt_true _ _ is in
    subst (λ (l : List Head). Path size s (busy (with_heads base l) s batch (Mark (n + 1) note (marked ++ n ∷ [])) queue) (busy (with_heads base l) s batch (Rest [] []) queue))
    (append_assoc pre (Active w ∷ []) hs)
    (marks_stop size base s (n + 1) note batch (marked ++ n ∷ []) queue (pre ++ Active w ∷ []) hs (omega arith) h (omega arith) (omega arith) (omega arith) many)))
  where
    st : State
    st = with_heads base (pre ++ Active w ∷ hs)

    go : (b : Bool) → nat_lt (length marked) (length batch) ≡ b
        → (nat_lt (length marked) (length batch) ≡ true → Path size s (busy st s batch (Mark (n + 1) note (marked ++ n ∷ [])) queue) (busy st s batch (Rest [] []) queue))
        → Path size s (busy st s batch (if b then Mark (n + 1) note (marked ++ n ∷ []) else Rest [] []) queue) (busy st s batch (Rest [] []) queue)
    go false is on = Path.stays _
    go true is on = on is

pub inserts_on : (size : ℕ) (base : State) (s b won n : ℕ) (batch queue : List ℕ) (pre hs : List Head) → n ≡ length pre → s < length base.slots
    → Path size s (busy (with_heads base (pre ++ hs)) s batch (look b won (actives n hs)) queue)
    (busy (with_heads base (pre ++ map (with_front b) hs)) s batch (Add b (won + length (actives n hs))) queue)
inserts_on size base s b won n batch queue pre [] e h =
    let none : won ≡ won + 0 = omega arith in
    same_state size s _ _ (ap (λ k. busy (with_heads base (pre ++ [])) s batch (Add b k) queue) none)
inserts_on size base s b won n batch queue pre (Inactive ∷ hs) e h =
    let len : length (pre ++ Inactive ∷ []) ≡ length pre + 1 = length-append pre (Inactive ∷ []) in
    subst (λ (l : List Head). Path size s (busy (with_heads base l) s batch (look b won (actives (n + 1) hs)) queue) (busy (with_heads base (pre ++ Inactive ∷ map (with_front b) hs)) s batch (Add b (won + length (actives (n + 1) hs))) queue))
    (append_assoc pre (Inactive ∷ []) hs)
    (subst (λ (l : List Head). Path size s (busy (with_heads base ((pre ++ Inactive ∷ []) ++ hs)) s batch (look b won (actives (n + 1) hs)) queue) (busy (with_heads base l) s batch (Add b (won + length (actives (n + 1) hs))) queue))
    (append_assoc pre (Inactive ∷ []) (map (with_front b) hs))
    (inserts_on size base s b won (n + 1) batch queue (pre ++ Inactive ∷ []) hs (omega arith) h))
inserts_on size base s b won n batch queue pre (Active w ∷ hs) e h =
    let st : State = with_heads base (pre ++ Active w ∷ hs) in
    let later : List ℕ = actives (n + 1) hs in
    let is : head_at st n ≡ Active w = rw e (get_or-append_seam pre (Active w) hs Inactive) in
    let put_in : set (pre ++ Active w ∷ hs) n (Active (b ∷ w)) ≡ (pre ++ Active (b ∷ w) ∷ []) ++ hs =
    rw e (set-append_seam pre (Active w) hs (Active (b ∷ w))) ∙ sym (append_assoc pre (Active (b ∷ w) ∷ []) hs) in
    let len : length (pre ++ Active (b ∷ w) ∷ []) ≡ length pre + 1 = length-append pre (Active (b ∷ w) ∷ []) in
    let total : won + 1 + length later ≡ won + length (n ∷ later) = omega arith in
    Path.goes _ (ReadHead s n) _ _ _
    (look_step size st s b won n batch later queue h ∙ ap (λ (x : Head). Some (busy st s batch (looked x b won n later) queue, Found (is_active x))) is) refl (refl, refl, refl)
    (only_look size st s b won n batch later queue h)
    (Path.goes _ (Insert s n Won) _ _ _
    (insert_step size st s b won n batch later w queue w h is ∙ ap (λ (l : List Head). Some (busy (with_heads base l) s batch (look b (won + 1) later) queue, Done)) put_in) refl (refl, refl, refl)
    (only_insert size st s b won n batch later w queue h is)
    (subst (λ (l : List Head). Path size s (busy (with_heads base ((pre ++ Active (b ∷ w) ∷ []) ++ hs)) s batch (look b (won + 1) later) queue) (busy (with_heads base l) s batch (Add b (won + length (n ∷ later))) queue))
    (append_assoc pre (Active (b ∷ w) ∷ []) (map (with_front b) hs))
    (subst (λ (k : ℕ). Path size s (busy (with_heads base ((pre ++ Active (b ∷ w) ∷ []) ++ hs)) s batch (look b (won + 1) later) queue) (busy (with_heads base ((pre ++ Active (b ∷ w) ∷ []) ++ map (with_front b) hs)) s batch (Add b k) queue))
    total
    (inserts_on size base s b (won + 1) (n + 1) batch queue (pre ++ Active (b ∷ w) ∷ []) hs (omega arith) h))))

-- the state once the batch waits for all active slots
abbrev pub with_waiting : State → List ℕ → State
with_waiting base batch =
    let won = length (actives 0 base.heads) in
    record base {
      heads = map (with_front (length base.batches)) base.heads;
      batches = base.batches ++ record { values = if won == 0 then [] else batch; count = pos won } ∷ [];
    }

abbrev pub place_with_waiting : State → List ℕ → Place
place_with_waiting base batch = Rest (if length (actives 0 base.heads) == 0 then batch else []) []

plus_none : (n : ℕ) → pos 0 +ℤ pos n ≡ pos n
plus_none n = let e : 0 + n ≡ n = omega arith in ap (λ (k : ℕ). pos k) e

pub attempts_on : (size : ℕ) (base : State) (s : ℕ) (batch queue : List ℕ) → s < length base.slots → length base.heads ≡ length base.slots
    → length (actives 0 base.heads) ≤ length batch
    → Path size s (busy base s batch (Mark 0 (length base.slots) []) queue) (busy (with_waiting base batch) s [] (place_with_waiting base batch) queue)
attempts_on size base s batch queue h all le =
    let b : ℕ = length base.batches in
    let won : ℕ = length (actives 0 base.heads) in
    let fresh : Batch = record { values = batch; count = pos 0 } in
    let marking : Path size s (busy base s batch (Mark 0 (length base.slots) []) queue) (busy base s batch (Mark (length base.slots) (length base.slots) (actives 0 base.heads)) queue)
    = marks_on size base s 0 (length base.slots) batch [] queue [] base.heads refl h (omega arith) (omega arith) (omega arith) in
    let inserting : Path size s (busy (with_batch base batch) s [] (look b 0 (actives 0 base.heads)) queue) (busy (with_heads (with_batch base batch) (map (with_front b) base.heads)) s [] (Add b (0 + won)) queue)
    = inserts_on size (with_batch base batch) s b 0 0 [] queue [] base.heads refl h in
    let total : 0 + won ≡ won = omega arith in
    let own : batch_at (with_batch base batch) b ≡ fresh = get_or-append_seam base.batches fresh [] no_batch in
    let adds : (batch_at (with_batch base batch) b).count +ℤ pos (0 + won) ≡ pos won = ap (λ (x : Batch). x.count +ℤ pos (0 + won)) own ∙ ap (λ (k : ℕ). pos 0 +ℤ pos k) total ∙ plus_none won in
    let ends : busy (with_count (with_heads (with_batch base batch) (map (with_front b) base.heads)) b (pos won)) s [] (counted_place (with_batch base batch) b (pos won) []) queue ≡ busy (with_waiting base batch) s [] (place_with_waiting base batch) queue
    = ap (λ (x : Batch). busy (record (with_heads (with_batch base batch) (map (with_front b) base.heads)) { batches = set (base.batches ++ fresh ∷ []) b (record { values = if won == 0 then [] else x.values; count = pos won }) }) s [] (Rest (if won == 0 then x.values else []) []) queue) own
    ∙ ap (λ (l : List Batch). busy (record (with_heads (with_batch base batch) (map (with_front b) base.heads)) { batches = l }) s [] (place_with_waiting base batch) queue) (set-append_seam base.batches fresh [] (record { values = if won == 0 then [] else batch; count = pos won })) in
    and_then size s _ _ _ marking
    (Path.goes _ (Detach s) _ _ _ (detach_step size base s (length base.slots) (length base.slots) batch (actives 0 base.heads) queue h (omega arith)) refl (refl, refl, refl)
    (only_detach size base s (length base.slots) (length base.slots) batch (actives 0 base.heads) queue h (omega arith))
    (and_then size s _ _ _ inserting
    (Path.goes _ (AddCount s) _ _ _ (add_step size (with_heads (with_batch base batch) (map (with_front b) base.heads)) s b (0 + won) [] queue (pos won) h adds) refl (refl, refl, refl)
    (only_add size (with_heads (with_batch base batch) (map (with_front b) base.heads)) s b (0 + won) [] queue h)
    (same_state size s _ _ ends))))

pub attempts_stop : (size : ℕ) (base : State) (s : ℕ) (batch queue : List ℕ) → s < length base.slots → length base.heads ≡ length base.slots
    → length batch < length (actives 0 base.heads)
    → Path size s (busy base s batch (Mark 0 (length base.slots) []) queue) (busy base s batch (Rest [] []) queue)
attempts_stop size base s batch queue h all lt =
    marks_stop size base s 0 (length base.slots) batch [] queue [] base.heads refl h (omega arith) (omega arith) (omega arith) (omega arith)
