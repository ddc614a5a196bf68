-- A turn of a call at one slot: it looks at the head, and tries to insert its batch there, until it wins or finds the slot inactive.
use Rattle.std.proofs.Common.{◌≡◌, ◌≢◌, ℕ, zero, suc, ◌+◌, ◌<◌, Bool, true, false, if◌then◌else◌, List, [], ◌∷◌, ◌++◌, length, get_or, Option, Some, refl, sym, ap, subst, ◌∙◌, unwrap_or, append_assoc, append-nil, arith}
use Rattle.seize_machine.specs.Machine.State.{Active, Progress, Head as MachineHead, Inactive, Look, State, head_at, is_active, waiting_at}
use Rattle.seize_machine.specs.Machine.Event.{Event, ReadHead}
use Rattle.seize_machine.specs.Machine.Next.{look, looked, looked_on, of_call, scheme}
use Rattle.seize_machine.specs.declared.machine.event.Answer.{Answer}
use Rattle.seize_machine.specs.declared.machine.event.Answer.TheVariants.{Done, Head as HeadRead}
use Rattle.seize_machine.specs.declared.machine.event.Try.{Try as Insertion}
use Rattle.seize_machine.specs.declared.machine.event.Try.TheVariants.{Won, Lost}
use Rattle.seize_book.specs.Adding.{private}
use Rattle.seize_book.specs.Blocks.{Plan, block_for, block_in, list_word, plan_value, word_of}
use Rattle.seize_book.specs.Book.{after}
use Rattle.seize_words.specs.Chunks.{IsHeaderOf, header_book, header_home}
use Rattle.seize_book.specs.Entry.{Deed, Entry}
use Rattle.seize_words.specs.Heads.{IsTrying, reads_at}
use Rattle.seize_book.specs.Homes.{home_of}
use Rattle.seize_book.specs.Passes.{IsSamePass, LooksOn, events_by}
use Rattle.seize_words.specs.Reservations.{IsHeadOfBook, MayRead, ShowsHead, slot}
use Rattle.seize_book.specs.Slots.{AddsEvent, IsKeyOfBook, own_list, slot_number, slot_of, start_of}
use Rattle.seize_book.specs.Tokens.{Name, start}
use Rattle.seize_words.specs.Walks.{Knows}
use Rattle.seize_book.specs.declared.book.pass.Pass.{Pass}
use Rattle.seize_book.specs.declared.book.slot_key.SlotKey.{SlotKey}
use Rattle.seize_words.specs.declared.chunk.Header.{Header}
use Rattle.seize_words.specs.declared.reservation.Head.{Head}
use Rattle.seize_book.proofs.Facts.{equal}
use Rattle.seize_words.proofs.Facts.{looked_named, plan_kept}
use Rattle.seize_calls.specs.Inserts.{Continues, InsertTries, InsertsAtSlot, IsAtHead, IsAtSlot, IsAtTry, TriesOnce, all_insert_events, insert_events, last_at, losses, plan_in, trying}
use Rattle.seize_calls.specs.Marks.{reading}
use Rattle.seize_calls.proofs.Keeps.{Goes, call_after, call_before, heads_read, keeps_book, keeps_looked, keeps_none, keeps_noted, keeps_twice, looked_again, looked_same, made_noted, outcome, same_private, state_before, step_noted}
use Rattle.seize_calls.proofs.Marks.{word_none, word_some}
use Rattle.seize_calls.proofs.Tries.{front_same}

-- some insertions were lost, and the call is to look at the head again
pub record IsTurning {key : SlotKey} {m block front : ℕ} (at : IsAtSlot key m block front) (pass : Pass) (key' : SlotKey) (pass' : Pass) : Type 0 where
  pub keeps : Continues key pass key' pass'
  pub lost : ℕ
  pub made : events_by pass' ≡ events_by pass ++ losses pass (slot_number key) m lost
  pub planned : plan_in key' at.batch ≡ plan_in key at.batch
  pub looking : (slot_of key').call ≡ Some (record { place = Look at.batch at.won m at.later; queue = at.queue })

abbrev pub turns_begin : {key : SlotKey} {m block front : ℕ} (at : IsAtSlot key m block front) (pass : Pass) → IsTurning at pass key pass
turns_begin {key} at pass = record { keeps = keeps_none key pass; lost = 0; made = sym (append-nil (events_by pass)); planned = refl; looking = at.looking }

-- The events of a turn are the same with a pass as it was before.

same_reading : (pass pass' : Pass) → IsSamePass pass pass' → (s m : ℕ) (found : Bool) → reading pass' s m found ≡ reading pass s m found
same_reading pass pass' same s m found = ap (λ (d : Deed). (d, HeadRead found)) (same_private pass pass' same (ReadHead s m))

same_trying : (pass pass' : Pass) → IsSamePass pass pass' → (s m : ℕ) (ends : Insertion) → trying pass' s m ends ≡ trying pass s m ends
same_trying pass pass' same s m ends = ap (λ (d : Deed). (d, Done)) (same_private pass pass' same (Event.Insert s m ends))

same_losses : (pass pass' : Pass) → IsSamePass pass pass' → (s m lost : ℕ) → losses pass' s m lost ≡ losses pass s m lost
same_losses pass pass' same s m zero = refl
same_losses pass pass' same s m (suc lost) =
    ap (λ (log : List (Deed × Answer)). log ++ reading pass' s m true ∷ trying pass' s m Lost ∷ []) (same_losses pass pass' same s m lost)
    ∙ ap (λ (x : Deed × Answer). losses pass s m lost ++ x ∷ trying pass' s m Lost ∷ []) (same_reading pass pass' same s m true)
    ∙ ap (λ (x : Deed × Answer). losses pass s m lost ++ reading pass s m true ∷ x ∷ []) (same_trying pass pass' same s m Lost)

same_last : (pass pass' : Pass) → IsSamePass pass pass' → (s m : ℕ) (won : Bool) → last_at pass' s m won ≡ last_at pass s m won
same_last pass pass' same s m true =
    ap (λ (x : Deed × Answer). x ∷ trying pass' s m Won ∷ []) (same_reading pass pass' same s m true) ∙ ap (λ (x : Deed × Answer). reading pass s m true ∷ x ∷ []) (same_trying pass pass' same s m Won)
same_last pass pass' same s m false = ap (λ (x : Deed × Answer). x ∷ []) (same_reading pass pass' same s m false)

pub same_turn : (pass pass' : Pass) → IsSamePass pass pass' → (s m : ℕ) (turn : InsertTries) → insert_events pass' s m turn ≡ insert_events pass s m turn
same_turn pass pass' same s m turn =
    ap (λ (log : List (Deed × Answer)). log ++ last_at pass' s m turn.won) (same_losses pass pass' same s m turn.lost)
    ∙ ap (λ (log : List (Deed × Answer)). losses pass s m turn.lost ++ log) (same_last pass pass' same s m turn.won)

pub same_turns : (pass pass' : Pass) → IsSamePass pass pass' → (s : ℕ) (ms : List ℕ) (turns : List InsertTries) → all_insert_events pass' s ms turns ≡ all_insert_events pass s ms turns
same_turns pass pass' same s [] turns = refl
same_turns pass pass' same s (m ∷ ms) [] = refl
same_turns pass pass' same s (m ∷ ms) (turn ∷ turns) =
    ap (λ (log : List (Deed × Answer)). log ++ all_insert_events pass' s ms turns) (same_turn pass pass' same s m turn)
    ∙ ap (λ (log : List (Deed × Answer)). insert_events pass s m turn ++ log) (same_turns pass pass' same s ms turns)

-- this is the header of the block for the slot
pub its_home : (key : SlotKey) (pass : Pass) (m block front : ℕ) (header : Header) (at : IsAtSlot key m block front) → IsKeyOfBook key pass → Knows key pass → IsHeaderOf header block pass
    → home_of (let plan = plan_in key at.batch in plan_value m plan.slots plan.values) ≡ header_home header
its_home key pass m block front header at book knows is =
    is.1 (plan_value m (plan_in key at.batch).slots (plan_in key at.batch).values) (looked_named key pass book knows at.batch at.won m at.later at.queue at.looking) (sym at.its_block)

active_list : (h : MachineHead) → is_active h ≡ true → h ≡ Active (waiting_at h)
active_list Inactive e = absurd (cc)
active_list (Active waiting) e = refl

inactive_is : (h : MachineHead) → is_active h ≡ false → h ≡ Inactive
inactive_is Inactive e = refl
inactive_is (Active waiting) e = absurd (cc)

module _ {key0 : SlotKey} {pass0 : Pass} {head : Head} {header : Header} {block front : ℕ} (here : IsAtHead key0 pass0 head header block front) (book : IsKeyOfBook key0 pass0 × IsHeadOfBook head pass0 × (header_book header ≡ pass0.name))
    {key : SlotKey} {pass : Pass} (r : IsTurning here.at pass0 key pass) where
  abbrev at : IsAtSlot key0 (slot head) block front
  at = here.at

  abbrev m : ℕ
  m = slot head

  abbrev call : Progress
  call = record { place = Look at.batch at.won m at.later; queue = at.queue }

  is_head : head.word.name ≡ pass.name
  is_head = book.1 ∙ sym r.keeps.on.same.0

  pub may_read : IsKeyOfBook key pass × (head.word.name ≡ pass.name)
  may_read = (keeps_book key0 key pass0 pass r.keeps book.0, is_head)

  pub reads_again : MayRead key head pass
  reads_again = (
    ap (λ (o : Option Progress). unwrap_or (of_call (reads_at m) o) false) r.looking ∙ equal m m refl,
    subst (λ (n : Name). m < length (after (start n) pass.seen).slots) (sym is_head) (let seen = here.seen in let grows = r.keeps.seen in omega (arith, seen, grows)),
  )

  module _ {key' : SlotKey} {pass' : Pass} {v : ℕ} (noted : AddsEvent key pass key' pass' (ReadHead (slot_number key) m)) (shows : ShowsHead head pass'.seen v) where
    abbrev event : Event
    event = ReadHead (slot_number key) m

    abbrev st : State
    st = state_before key key' pass pass' event [] noted

    abbrev h : MachineHead
    h = head_at st m

    goes_so : Goes st (slot_number key) call (looked_on scheme h) (outcome key key' pass pass' event [] noted) (HeadRead (is_active h))
    goes_so = looked_again _ st (slot_number key) m at.batch at.won at.later at.queue _ (step_noted key key' pass pass' event [] noted) (call_before key key' pass pass' event [] noted call r.looking)

    pub keeps_read : Continues key0 pass0 key' pass'
    keeps_read = keeps_twice key0 key key' pass0 pass pass' r.keeps (keeps_noted key key' pass pass' event [] noted call (looked_on scheme h) (HeadRead (is_active h)) goes_so refl)

    pub goes_on : (slot_of key').call ≡ Some (record { place = looked h at.batch at.won m at.later; queue = at.queue })
    goes_on = call_after key key' pass pass' event [] noted call (looked_on scheme h) (HeadRead (is_active h)) goes_so

    -- what the word showed is what the machine read
    head_now : head_at (after (start pass.name) pass'.seen) m ≡ h
    head_now = ap (λ (now : State). head_at now m) noted.2.0.leads ∙ ap (λ (hs : List MachineHead). get_or hs m Inactive) (heads_read _ st (slot_number key) m _ (step_noted key key' pass pass' event [] noted))

    pub word : v ≡ word_of (λ b. block_for (start head.word.name) pass'.seen b m) h
    word = shows ∙ ap (word_of (λ b. block_for (start head.word.name) pass'.seen b m)) (ap (λ (n : Name). head_at (after (start n) pass'.seen) m) is_head ∙ head_now)

    made_read : (active : Bool) → is_active h ≡ active → events_by pass' ≡ (events_by pass0 ++ losses pass0 (slot_number key0) m r.lost) ++ reading pass0 (slot_number key0) m active ∷ []
    made_read active e =
        made_noted key key' pass pass' event [] noted call (looked_on scheme h) (HeadRead (is_active h)) goes_so
        ∙ ap (λ (log : List (Deed × Answer)). log ++ (private pass event, HeadRead (is_active h)) ∷ []) r.made
        ∙ ap (λ (x : Deed × Answer). (events_by pass0 ++ losses pass0 (slot_number key0) m r.lost) ++ x ∷ [])
        (ap (λ (d : Deed). (d, HeadRead (is_active h))) (same_private pass0 pass r.keeps.on.same event)
        ∙ ap (λ (s : ℕ). (private pass0 (ReadHead s m), HeadRead (is_active h))) r.keeps.on.its.1
        ∙ ap (λ (b : Bool). reading pass0 (slot_number key0) m b) e)

    pub planned_read : plan_in key' at.batch ≡ plan_in key0 at.batch
    planned_read = plan_kept key key' pass pass' (private pass event) at.batch at.its_front.0 noted (front_same key0 key at.batch front r.planned at.its_front).1 ∙ r.planned

    -- the slot is inactive, and skipped
    pub skipped : v ≡ 0 → InsertsAtSlot at pass0 key' pass' false
    skipped none =
        let off = word_none (λ b. block_for (start head.word.name) pass'.seen b m) h (sym word ∙ none) in
        record {
          keeps = keeps_read;
          lost = r.lost;
          made = made_read false off ∙ append_assoc (events_by pass0) (losses pass0 (slot_number key0) m r.lost) (reading pass0 (slot_number key0) m false ∷ []);
          planned = planned_read;
          stands = goes_on ∙ ap (λ (x : MachineHead). Some (record { place = looked x at.batch at.won m at.later; queue = at.queue })) (inactive_is h off);
        }

    -- or it is active, and an insertion may be tried
    module _ (some : v ≢ 0) where
      on : is_active h ≡ true
      on = word_some (λ b. block_for (start head.word.name) pass'.seen b m) h (λ e. some (word ∙ e))

      pub is_list : h ≡ Active (waiting_at h)
      is_list = active_list h on

      pub names : (start head.word.name ≡ start_of key') × (pass'.seen ≡ own_list key')
      names = (ap start (is_head ∙ sym may_read.0 ∙ sym noted.1.0), sym noted.1.2)

      abbrev pub now_trying : IsTrying (start_of key') (slot_number key') (own_list key') m v block
      now_trying = record {
        batch = at.batch;
        won = at.won;
        later = at.later;
        saw = waiting_at h;
        queue = at.queue;
        trying = goes_on ∙ ap (λ (x : MachineHead). Some (record { place = looked x at.batch at.won m at.later; queue = at.queue })) is_list;
        is_seen =
            word ∙ ap (word_of (λ b. block_for (start head.word.name) pass'.seen b m)) is_list
            ∙ ap (λ (t : State × List Entry). list_word (λ b. block_for t.0 t.1 b m) (waiting_at h)) (λ i. (names.0 i, names.1 i));
        is_block = at.its_block ∙ ap (λ (plan : Plan). block_in plan m) (sym planned_read);
      }

      abbrev pub at_try : IsAtTry key' head header v block front
      at_try = record {
        tries = now_trying;
        fits = here.fits;
        its_home = ap (λ (plan : Plan). home_of (plan_value m plan.slots plan.values)) planned_read ∙ here.home;
        its_front = front_same key0 key' at.batch front planned_read at.its_front;
      }

      module _ {key2 : SlotKey} {pass2 : Pass} {won : Bool} (tried : TriesOnce at_try pass' key2 pass2 won) where
        keeps_all : Continues key0 pass0 key2 pass2
        keeps_all = keeps_twice key0 key' key2 pass0 pass' pass2 keeps_read tried.keeps

        planned_all : plan_in key2 at.batch ≡ plan_in key0 at.batch
        planned_all = tried.planned ∙ planned_read

        abbrev end : Event
        end = Event.Insert (slot_number key') m (if won then Won else Lost)

        made_all : events_by pass2 ≡ events_by pass0 ++ (losses pass0 (slot_number key0) m r.lost ++ reading pass0 (slot_number key0) m true ∷ trying pass0 (slot_number key0) m (if won then Won else Lost) ∷ [])
        made_all =
            let before = events_by pass0 in let lost = losses pass0 (slot_number key0) m r.lost in let one = reading pass0 (slot_number key0) m true in let two = trying pass0 (slot_number key0) m (if won then Won else Lost) in
            tried.made
            ∙ ap (λ (log : List (Deed × Answer)). log ++ trying pass' (slot_number key') m (if won then Won else Lost) ∷ []) (made_read true on)
            ∙ ap (λ (x : Deed × Answer). ((before ++ lost) ++ one ∷ []) ++ x ∷ [])
            (ap (λ (d : Deed). (d, Done)) (same_private pass0 pass' keeps_read.on.same end) ∙ ap (λ (s : ℕ). trying pass0 s m (if won then Won else Lost)) keeps_read.on.its.1)
            ∙ append_assoc (before ++ lost) (one ∷ []) (two ∷ []) ∙ append_assoc before lost (one ∷ two ∷ [])

        pub won_turn : won ≡ true → InsertsAtSlot at pass0 key2 pass2 true
        won_turn is = record {
          keeps = keeps_all;
          lost = r.lost;
          made = made_all ∙ ap (λ (w : Bool). events_by pass0 ++ (losses pass0 (slot_number key0) m r.lost ++ reading pass0 (slot_number key0) m true ∷ trying pass0 (slot_number key0) m (if w then Won else Lost) ∷ [])) is;
          planned = planned_all;
          stands = tried.stands ∙ ap (λ (w : Bool). Some (record { place = if w then look at.batch (at.won + 1) at.later else Look at.batch at.won m at.later; queue = at.queue })) is;
        }

        pub lost_turn : won ≡ false → IsTurning at pass0 key2 pass2
        lost_turn is = record {
          keeps = keeps_all;
          lost = suc r.lost;
          made = made_all ∙ ap (λ (w : Bool). events_by pass0 ++ (losses pass0 (slot_number key0) m r.lost ++ reading pass0 (slot_number key0) m true ∷ trying pass0 (slot_number key0) m (if w then Won else Lost) ∷ [])) is;
          planned = planned_all;
          looking = tried.stands ∙ ap (λ (w : Bool). Some (record { place = if w then look at.batch (at.won + 1) at.later else Look at.batch at.won m at.later; queue = at.queue })) is;
        }

-- What a turn comes to from before a look on.
pub inserted_before : {key : SlotKey} {m block front : ℕ} (at : IsAtSlot key m block front) (pass0 pass1 : Pass) (key' : SlotKey) (pass' : Pass) (won : Bool) → LooksOn pass0 pass1 → InsertsAtSlot at pass1 key' pass' won → InsertsAtSlot at pass0 key' pass' won
inserted_before {key} {m} at pass0 pass1 key' pass' won looks r = record {
  keeps = keeps_twice key key key' pass0 pass1 pass' (keeps_looked key pass0 pass1 looks) r.keeps;
  lost = r.lost;
  made = r.made ∙ ap (λ (log : List (Deed × Answer)). log ++ insert_events pass1 (slot_number key) m (record { lost = r.lost; won = won })) (looked_same pass0 pass1 looks)
      ∙ ap (λ (log : List (Deed × Answer)). events_by pass0 ++ log) (same_turn pass0 pass1 looks.same (slot_number key) m (record { lost = r.lost; won = won }));
  planned = r.planned;
  stands = r.stands;
}
