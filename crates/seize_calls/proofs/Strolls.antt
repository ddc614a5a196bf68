-- A whole walk, with what is handed in it.
use Rattle.std.proofs.Common.{◌≡◌, ℕ, suc, ◌+◌, ◌<◌, ℤ, List, [], ◌∷◌, ◌++◌, length, map, Option, Some, refl, sym, ap, subst, ◌∙◌, append_assoc, append-nil, arith}
use Rattle.std.specs.List.{Contains}
use Rattle.std.proofs.lemmas.List.{length_push, length-append}
use base.Growing.{prefix_trans}
use Rattle.seize_machine.specs.Machine.State.{Progress, Rest}
use Rattle.seize_machine.specs.Machine.Event.{Hand, SubCount}
use Rattle.seize_machine.specs.Machine.Laws.{walk_of}
use Rattle.seize_machine.specs.declared.machine.event.Answer.{Answer}
use Rattle.seize_machine.specs.declared.machine.event.Answer.TheVariants.{Count as Counted, Handed}
use Rattle.seize_book.specs.Entry.{Deed}
use Rattle.seize_book.specs.Passes.{IsSamePass, events_by}
use Rattle.seize_book.specs.Slots.{IsKeyOfBook, own_list, slot_number, slot_of}
use Rattle.seize_book.specs.Values.{values_of}
use Rattle.seize_words.specs.Walks.{Knows, word_for}
use Rattle.seize_book.specs.declared.book.pass.Pass.{Pass}
use Rattle.seize_book.specs.declared.book.slot_key.SlotKey.{SlotKey}
use Rattle.seize_book.specs.declared.book.value_keys.ValueKeys.{ValueKeys}
use Rattle.seize_words.proofs.Facts.{all_of_told, all_told_append, all_told_grow, word_stays}
use Rattle.seize_calls.specs.Handing.{Had, Handings, HasHad, Queues, values_handed, values_put, words_put}
use Rattle.seize_book.specs.Kept.{AllTold, kepts_of}
use Rattle.seize_calls.specs.Walking.{ContinuesAndKnows, EndsWalk, HandsAll, IsAtWalk, IsGiven, Stops, WalksAll, WalksTo, counting, countings, handed_in, hands, steps}
use Rattle.seize_calls.specs.declared.walking.WalkOutcome.TheVariants.{GivesUp, Over}
use Rattle.seize_calls.proofs.Handed.{had_more, had_none, handed_append, put_append, queues_more, queues_none}
use Rattle.seize_calls.proofs.Keeps.{keeps_none, keeps_twice, same_private, same_telling}

pub goes_twice : (key one two : SlotKey) (pass pass1 pass2 : Pass) → ContinuesAndKnows key pass one pass1 → ContinuesAndKnows one pass1 two pass2 → ContinuesAndKnows key pass two pass2
goes_twice key one two pass pass1 pass2 first second = (keeps_twice key one two pass pass1 pass2 first.0 second.0, prefix_trans (own_list key) (own_list one) (own_list two) first.1 second.1)

-- The events of a walk are the same with a pass as it was before.

same_counting : (pass pass' : Pass) → IsSamePass pass pass' → (s : ℕ) (count : ℤ) → counting pass' s count ≡ counting pass s count
same_counting pass pass' same s count = ap (λ (d : Deed). (d, Counted count)) (same_private pass pass' same (SubCount s))

pub same_countings : (pass pass' : Pass) → IsSamePass pass pass' → (s : ℕ) (counts : List ℤ) → countings pass' s counts ≡ countings pass s counts
same_countings pass pass' same s [] = refl
same_countings pass pass' same s (count ∷ counts) =
    ap (λ (x : Deed × Answer). x ∷ countings pass' s counts) (same_counting pass pass' same s count) ∙ ap (λ (log : List (Deed × Answer)). counting pass s count ∷ log) (same_countings pass pass' same s counts)

pub same_hands : (pass pass' : Pass) → IsSamePass pass pass' → (s : ℕ) (handed : Handings) → hands pass' s handed ≡ hands pass s handed
same_hands pass pass' same s [] = refl
same_hands pass pass' same s (one ∷ handed) = λ i. (same_telling pass pass' same (Hand s one.1) one.2 i, Handed one.0) ∷ same_hands pass pass' same s handed i

pub same_steps : (pass pass' : Pass) → IsSamePass pass pass' → (s : ℕ) (walked : List (ℤ × Handings)) → steps pass' s walked ≡ steps pass s walked
same_steps pass pass' same s [] = refl
same_steps pass pass' same s (step ∷ walked) =
    ap (λ (x : Deed × Answer). (x ∷ hands pass' s step.1) ++ steps pass' s walked) (same_counting pass pass' same s step.0)
    ∙ ap (λ (log : List (Deed × Answer)). (counting pass s step.0 ∷ log) ++ steps pass' s walked) (same_hands pass pass' same s step.1)
    ∙ ap (λ (log : List (Deed × Answer)). (counting pass s step.0 ∷ hands pass s step.1) ++ log) (same_steps pass pass' same s walked)

-- Counts without values, and one with them.

abbrev plain : List ℤ → List (ℤ × Handings)
plain counts = map (λ (count : ℤ). (count, [])) counts

steps_append : (pass : Pass) (s : ℕ) (one two : List (ℤ × Handings)) → steps pass s (one ++ two) ≡ steps pass s one ++ steps pass s two
steps_append pass s [] two = refl
steps_append pass s (step ∷ one) two =
    ap (λ (log : List (Deed × Answer)). (counting pass s step.0 ∷ hands pass s step.1) ++ log) (steps_append pass s one two)
    ∙ sym (append_assoc (counting pass s step.0 ∷ hands pass s step.1) (steps pass s one) (steps pass s two))

plain_steps : (pass : Pass) (s : ℕ) (counts : List ℤ) → steps pass s (plain counts) ≡ countings pass s counts
plain_steps pass s [] = refl
plain_steps pass s (count ∷ counts) = ap (λ (log : List (Deed × Answer)). counting pass s count ∷ log) (plain_steps pass s counts)

plain_many : (counts : List ℤ) → length (plain counts) ≡ length counts
plain_many [] = refl
plain_many (count ∷ counts) = ap suc (plain_many counts)

last_step : (pass : Pass) (s : ℕ) (counts : List ℤ) (zero : ℤ) (values : Handings) → countings pass s (counts ++ zero ∷ []) ++ hands pass s values ≡ steps pass s (plain counts ++ (zero, values) ∷ [])
last_step pass s [] zero values = ap (λ (log : List (Deed × Answer)). counting pass s zero ∷ log) (sym (append-nil (hands pass s values)))
last_step pass s (count ∷ counts) zero values = ap (λ (log : List (Deed × Answer)). counting pass s count ∷ log) (last_step pass s counts zero values)

walked_append : (one two : List (ℤ × Handings)) → handed_in (one ++ two) ≡ handed_in one ++ handed_in two
walked_append [] two = refl
walked_append (step ∷ one) two = ap (λ (vs : Handings). step.1 ++ vs) (walked_append one two) ∙ sym (append_assoc step.1 (handed_in one) (handed_in two))

plain_handed : (counts : List ℤ) → handed_in (plain counts) ≡ []
plain_handed [] = refl
plain_handed (count ∷ counts) = plain_handed counts

-- of counts none is handed
handed_plain : (walked : List (ℤ × Handings)) (counts : List ℤ) → handed_in walked ≡ handed_in (walked ++ plain counts)
handed_plain walked counts = sym (walked_append walked (plain counts) ∙ ap (λ (vs : Handings). handed_in walked ++ vs) (plain_handed counts) ∙ append-nil (handed_in walked))

-- and of the last one these values
handed_last : (walked : List (ℤ × Handings)) (counts : List ℤ) (zero : ℤ) (values : Handings) → handed_in walked ++ values ≡ handed_in (walked ++ (plain counts ++ (zero, values) ∷ []))
handed_last walked counts zero values =
    sym (walked_append walked (plain counts ++ (zero, values) ∷ []) ∙ ap (λ (vs : Handings). handed_in walked ++ vs)
    (walked_append (plain counts) ((zero, values) ∷ []) ∙ ap (λ (vs : Handings). vs ++ (values ++ [])) (plain_handed counts) ∙ append-nil values))

-- some of the walk is behind
pub record IsStrolling {key : SlotKey} {word : ℕ} (at : IsAtWalk key word) (pass : Pass) (queue : ValueKeys) (had : Had) (key' : SlotKey) (pass' : Pass) (leads' : ℕ) (queue' : ValueKeys) (had' : Had) : Type 0 where
  pub goes_on : ContinuesAndKnows key pass key' pass'
  pub walked : List (ℤ × Handings)
  pub kepts : List ℕ
  pub has_had : HasHad (handed_in walked) kepts had had'
  pub told : AllTold pass'.seen (values_handed (handed_in walked)) kepts
  pub made : events_by pass' ≡ events_by pass ++ steps pass (slot_number key) walked
  pub here : IsAtWalk key' leads'
  pub each : length walked + length here.walk ≡ length at.walk
  pub same_queue : here.queue ≡ at.queue ++ values_put (handed_in walked)
  pub queued : let handed = handed_in walked in Queues queue (values_put handed) (words_put handed) queue'

abbrev pub none_strolled : (key : SlotKey) (word : ℕ) (at : IsAtWalk key word) (pass : Pass) (queue : ValueKeys) (had : Had) → IsStrolling at pass queue had key pass word queue had
none_strolled key word at pass queue had = record {
  goes_on = (keeps_none key pass, ([], append-nil (own_list key)));
  walked = [];
  kepts = [];
  has_had = had_none had;
  told = tt;
  made = sym (append-nil (events_by pass));
  here = at;
  each = omega arith;
  same_queue = sym (append-nil at.queue);
  queued = queues_none queue;
}

-- to none leads 1
none_waits : (key : SlotKey) (word : ℕ) (at : IsAtWalk key word) → word ≡ 1 → at.walk ≡ []
none_waits key word at one = go at.walk at.leads
  where
    go : (walk : List ℕ) → word ≡ word_for key walk → walk ≡ []
    go [] is = refl
    go (b ∷ walk) is = absurd (omega (arith, is, one))

pub none_waited : (key : SlotKey) (word : ℕ) (at : IsAtWalk key word) (pass : Pass) (queue : ValueKeys) (had : Had) → word ≡ 1 → WalksAll at pass queue had key pass queue had
none_waited key word at pass queue had one =
    let none = none_waits key word at one in
    record {
      goes_on = (none_strolled key word at pass queue had).goes_on;
      walked = [];
      kepts = [];
      has_had = had_none had;
      told = tt;
      each = sym (ap (λ (bs : List ℕ). length bs) none);
      made = sym (append-nil (events_by pass));
      over = at.walking ∙ (λ j. Some (record { place = Rest [] (none j); queue = sym (append-nil at.queue) j }));
      queued = queues_none queue;
    }

module _ {key0 : SlotKey} {word : ℕ} {at : IsAtWalk key0 word} {pass0 : Pass} {queue0 : ValueKeys} {had0 : Had} {key : SlotKey} {pass : Pass} {leads : ℕ} {queue : ValueKeys} {had : Had} (r : IsStrolling at pass0 queue0 had0 key pass leads queue had) where
  abbrev s : ℕ
  s = slot_number key0

  abbrev behind : List (Deed × Answer)
  behind = steps pass0 s r.walked

  goes : (counts : List ℤ) → IsSamePass pass0 pass → slot_number key ≡ s → countings pass (slot_number key) counts ≡ countings pass0 s counts
  goes counts same its = same_countings pass0 pass same (slot_number key) counts ∙ ap (λ (k : ℕ). countings pass0 k counts) its

  -- the walk is over
  pub strolled : {key1 : SlotKey} {pass1 : Pass} {values : ValueKeys} → WalksTo r.here pass key1 pass1 values Over → WalksAll at pass0 queue0 had0 key1 pass1 queue had
  strolled {key1} {pass1} {values} w =
      let ends : EndsWalk r.here w.held pass key1 pass1 values = w.ends_so in
      record {
        goes_on = goes_twice key0 key key1 pass0 pass pass1 r.goes_on w.goes_on;
        walked = r.walked ++ plain w.held;
        kepts = r.kepts;
        has_had = subst (λ (vs : Handings). HasHad vs r.kepts had0 had) (handed_plain r.walked w.held) r.has_had;
        told = subst (λ (vs : Handings). AllTold pass1.seen (values_handed vs) r.kepts) (handed_plain r.walked w.held) (all_told_grow pass.seen pass1.seen (values_handed (handed_in r.walked)) r.kepts w.goes_on.0.on.grows r.told);
        each = length-append r.walked (plain w.held) ∙ ap (λ (n : ℕ). length r.walked + n) (plain_many w.held ∙ ends.each) ∙ r.each;
        made = ends.made ∙ ap (λ (log : List (Deed × Answer)). log ++ countings pass (slot_number key) w.held) r.made
            ∙ append_assoc (events_by pass0) behind (countings pass (slot_number key) w.held)
            ∙ ap (λ (log : List (Deed × Answer)). events_by pass0 ++ log)
            (ap (λ (log : List (Deed × Answer)). behind ++ log) (goes w.held r.goes_on.0.on.same r.goes_on.0.on.its.1 ∙ sym (plain_steps pass0 s w.held)) ∙ sym (steps_append pass0 s r.walked (plain w.held)));
        over = ends.over ∙ ap (λ (q : List ℕ). Some (record { place = Rest [] []; queue = q })) (r.same_queue ∙ ap (λ (vs : Handings). at.queue ++ values_put vs) (handed_plain r.walked w.held));
        queued = subst (λ (vs : Handings). Queues queue0 (values_put vs) (words_put vs) queue) (handed_plain r.walked w.held) r.queued;
      }

  -- or a batch was given up, and is handed
  module _ {key1 : SlotKey} {pass1 : Pass} {values : ValueKeys} {front rest : ℕ} (w : WalksTo r.here pass key1 pass1 values (GivesUp front rest)) (book : IsKeyOfBook key1 pass1) (knows : Knows key1 pass1) where
    abbrev stop : Stops r.here w.held pass key1 pass1 values front rest
    stop = w.ends_so

    abbrev pub given_now : IsGiven key1 pass1 values front
    given_now = stop.gives

    module _ {key2 : SlotKey} {pass2 : Pass} {values2 queue2 : ValueKeys} {had2 : Had} (handed : HandsAll given_now queue key2 pass2 values2 queue2) (more : HasHad handed.handed (kepts_of values) had had2) where
      pub handed_on : IsStrolling at pass0 queue0 had0 key2 pass2 rest queue2 had2
      handed_on =
          let one = goes_twice key0 key key1 pass0 pass pass1 r.goes_on w.goes_on in let vs = handed.handed in
          record {
            goes_on = goes_twice key0 key1 key2 pass0 pass1 pass2 one handed.goes_on;
            walked = r.walked ++ (plain w.held ++ (stop.zero, vs) ∷ []);
            kepts = r.kepts ++ kepts_of values;
            has_had = subst (λ (us : Handings). HasHad us (r.kepts ++ kepts_of values) had0 had2) (handed_last r.walked w.held stop.zero vs)
                (had_more (handed_in r.walked) vs r.kepts (kepts_of values) had0 had had2 r.has_had more);
            told = subst (λ (us : Handings). AllTold pass2.seen (values_handed us) (r.kepts ++ kepts_of values)) (handed_last r.walked w.held stop.zero vs)
                (subst (λ (us : List ℕ). AllTold pass2.seen us (r.kepts ++ kepts_of values)) (sym (handed_append (handed_in r.walked) vs))
                (all_told_append pass2.seen (values_handed (handed_in r.walked)) r.kepts (values_handed vs) (kepts_of values)
                (all_told_grow pass.seen pass2.seen (values_handed (handed_in r.walked)) r.kepts (prefix_trans pass.seen pass1.seen pass2.seen w.goes_on.0.on.grows handed.goes_on.0.on.grows) r.told)
                (subst (λ (us : List ℕ). AllTold pass2.seen us (kepts_of values)) (sym handed.which)
                (all_told_grow pass1.seen pass2.seen (values_of values) (kepts_of values) handed.goes_on.0.on.grows (all_of_told pass1.seen values.keys.held given_now.told)))));
            queued = subst (λ (us : Handings). Queues queue0 (values_put us) (words_put us) queue2) (handed_last r.walked w.held stop.zero vs) (queues_more queue0 queue queue2 (handed_in r.walked) vs r.queued handed.queued);
            made = handed.made
                ∙ ap (λ (log : List (Deed × Answer)). log ++ hands pass1 (slot_number key1) vs) (stop.made ∙ ap (λ (log : List (Deed × Answer)). log ++ countings pass (slot_number key) (w.held ++ stop.zero ∷ [])) r.made
                ∙ ap (λ (log : List (Deed × Answer)). (events_by pass0 ++ behind) ++ log) (goes (w.held ++ stop.zero ∷ []) r.goes_on.0.on.same r.goes_on.0.on.its.1))
                ∙ ap (λ (log : List (Deed × Answer)). ((events_by pass0 ++ behind) ++ countings pass0 s (w.held ++ stop.zero ∷ [])) ++ log)
                (same_hands pass0 pass1 one.0.on.same (slot_number key1) vs ∙ ap (λ (k : ℕ). hands pass0 k vs) one.0.on.its.1)
                ∙ append_assoc (events_by pass0 ++ behind) (countings pass0 s (w.held ++ stop.zero ∷ [])) (hands pass0 s vs)
                ∙ ap (λ (log : List (Deed × Answer)). (events_by pass0 ++ behind) ++ log) (last_step pass0 s w.held stop.zero vs)
                ∙ append_assoc (events_by pass0) behind (steps pass0 s (plain w.held ++ (stop.zero, vs) ∷ []))
                ∙ ap (λ (log : List (Deed × Answer)). events_by pass0 ++ log) (sym (steps_append pass0 s r.walked (plain w.held ++ (stop.zero, vs) ∷ [])));
            here = record {
              walk = given_now.walk;
              queue = given_now.queue ++ values_put vs;
              walking = handed.walks_on;
              leads = stop.leads
                  ∙ word_stays key1 key2 pass1 0 given_now.walk given_now.queue book knows handed.goes_on.0.on.its.0 handed.goes_on.0.on.its.1 handed.goes_on.1
                  (λ b there. subst (λ (o : Option Progress). Contains (walk_of o) b) (sym given_now.given_up) there);
            };
            each =
                let a = length-append r.walked (plain w.held ++ (stop.zero, vs) ∷ []) in let b = length_push (plain w.held) (stop.zero, vs) in let c = plain_many w.held in let d = stop.each in
                let e = length_push w.held stop.zero in let f = ap (λ (bs : List ℕ). length bs) stop.walked ∙ length-append stop.done given_now.walk in let g = r.each in
                omega (arith, a, b, c, d, e, f, g);
            same_queue = ap (λ (q : List ℕ). q ++ values_put vs) (stop.same_queue ∙ r.same_queue)
                ∙ (append_assoc at.queue (values_put (handed_in r.walked)) (values_put vs)
                ∙ ap (λ (us : List ℕ). at.queue ++ us) (sym (put_append (handed_in r.walked) vs) ∙ ap values_put (handed_last r.walked w.held stop.zero vs)));
          }

      -- there is less to walk
      pub shorter : length (walk_of (slot_of key2).call) < length (walk_of (slot_of key).call)
      shorter =
          let new : length (walk_of (slot_of key2).call) ≡ length given_now.walk = ap (λ (o : Option Progress). length (walk_of o)) handed.walks_on in
          let old : length (walk_of (slot_of key).call) ≡ length r.here.walk = ap (λ (o : Option Progress). length (walk_of o)) r.here.walking in
          let f = ap (λ (bs : List ℕ). length bs) stop.walked ∙ length-append stop.done given_now.walk in let d = stop.each in let e = length_push w.held stop.zero in
          omega (arith, new, old, f, d, e)
