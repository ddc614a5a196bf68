-- What belongs together in a slot's call stays so over its parts.
use Rattle.std.proofs.Common.{[], sym, ◌∙◌}
use Rattle.seize_book.specs.Kept.{AreTold}
use Rattle.seize_book.specs.Values.{AreOfBook}
use Rattle.seize_book.specs.declared.book.pass.Pass.{Pass}
use Rattle.seize_book.specs.declared.book.slot_key.SlotKey.{SlotKey}
use Rattle.seize_store.specs.declared.spot.Spots.{Spots}
use Rattle.seize_words.specs.Chunks.{AreSpotsIn}
use Rattle.seize_words.specs.Walks.{Knows}
use Rattle.seize_words.specs.declared.chunk.Header.{Header}
use Rattle.seize_words.specs.declared.chunk.Part.{Part}
use Rattle.seize_words.specs.declared.words.Words.{Words}
use Rattle.seize_words.proofs.Facts.{all_told_later}
use Rattle.seize_calls.specs.Alone.{Onward}
use Rattle.seize_calls.specs.Batches.{keys_in}
use Rattle.seize_calls.specs.Furthers.{further_in}
use Rattle.seize_calls.specs.Together.{IsHolderFor, IsKeyFor, IsUnderWay}
use Rattle.seize_calls.specs.Inserts.{Continues}
use Rattle.seize_calls.specs.Settling.{CallState, HasBatch}
use Rattle.seize_calls.specs.declared.further.Further.{Further}
use Rattle.seize_calls.specs.declared.holder.Holder.{Holder}

-- of the values of the batch and of the queue the list says what is kept
abbrev pub HasKeys : CallState → Type 0
HasKeys a = HasBatch a.key a.pass a.batch × AreOfBook a.queue a.pass × AreTold a.queue a.pass

pub key_on : {T : Type 0} (words : Words T) (key key' : SlotKey) (pass pass' : Pass) → IsKeyFor words key pass → Onward key pass key' pass' → Knows key' pass' → IsKeyFor words key' pass'
key_on words key key' pass pass' is on knows = record { of = (is.of.0 ∙ sym on.same.0, is.of.1 ∙ sym on.same.2); its = on.its.0 ∙ (is.its ∙ sym on.same.0); knows = knows }

module _ {T : Type 0} (words : Words T) (holder : Holder T) (pass : Pass) (is : IsHolderFor words holder pass) where
  -- where the batch stays
  pub holds_on : (key' : SlotKey) (spots' : Spots Header Part T) (pass' : Pass) → Continues holder.key pass key' pass' → Knows key' pass' → AreSpotsIn words.blocks spots' → IsHolderFor words (record { key = key'; batch = holder.batch; spots = spots' }) pass'
  holds_on key' spots' pass' keeps knows spots = let on = keeps.on in
      record {
        keyed = key_on words holder.key key' pass pass' is.keyed on knows;
        batch = (is.batch.0 ∙ sym on.same.0, is.batch.1 ∙ sym keeps.batch, all_told_later pass.seen pass'.seen (keys_in holder.batch).keys.held on.grows is.batch.2);
        spots = spots;
      }

  -- and the queue too
  pub under_on : (queue : Further) (key' : SlotKey) (pass' : Pass) → AreOfBook (further_in queue) pass × AreTold (further_in queue) pass → Continues holder.key pass key' pass' → Knows key' pass' → IsUnderWay words (record { key = key'; batch = holder.batch; spots = holder.spots }) queue pass'
  under_on queue key' pass' has keeps knows = record {
    holds = holds_on key' holder.spots pass' keeps knows is.spots;
    queue_is = (has.0 ∙ sym keeps.on.same.0, all_told_later pass.seen pass'.seen (further_in queue).keys.held keeps.on.grows has.1);
  }

-- after a part of the call
pub under_way : {T : Type 0} (words : Words T) (holder holder' : Holder T) (queue queue' : Further) (pass pass' : Pass) → IsUnderWay words holder queue pass → Onward holder.key pass holder'.key pass' → Knows holder'.key pass' → HasKeys (record { key = holder'.key; pass = pass'; batch = keys_in holder'.batch; queue = further_in queue'; had = [] })
    → AreSpotsIn words.blocks holder'.spots → IsUnderWay words holder' queue' pass'
under_way words holder holder' queue queue' pass pass' is on knows keys spots =
    record { holds = record { keyed = key_on words holder.key holder'.key pass pass' is.holds.keyed on knows; batch = keys.0; spots = spots }; queue_is = (keys.1, keys.2) }
