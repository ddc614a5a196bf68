-- Calls for a collector: their links are all below its number of links, and the blocks that they bring lie in its store, with each block
-- inside them.
--     IsCallFor alone call       the call is for this collector in one caller's hands
--     AreCallsFor, IsGroupFor, AreGroupsFor     so is each of several calls, of a group, of the groups of a script
--     IsWhole script             the calls of a script are for the collector that it carries
--     IsReady parser             the groups and the calls that were read so far are for the collector that they are read for
--     IsNew alone                the list of the collector has no event, and its state is that of a new one
use Rattle.std.specs.Prelude.{◌≡◌, List, [], All}
use Rattle.seize.specs.Waiting.State.{new}
use Rattle.seize.specs.Alones.{View}
use Rattle.seize.specs.Running.{AreFor, IsFor}
use Rattle.seize.specs.declared.alone.running.Call.{Call}
use Rattle.seize_script.specs.Values.{owners_of}
use Rattle.seize_script.specs.declared.parser.Parser.{Parser}
use Rattle.seize_script.specs.declared.script.Calls.{Calls}
use Rattle.seize_script.specs.declared.script.Group.{Group}
use Rattle.seize_script.specs.declared.script.Script.{Script}
use Rattle.seize_script.specs.declared.value.Value.{Value}

abbrev pub IsCallFor : View Value → Call Value → Type 0
IsCallFor alone call = IsFor owners_of alone.book.store alone.links call

abbrev pub AreCallsFor : View Value → List (Call Value) → Type 0
AreCallsFor alone calls = AreFor owners_of alone.book.store alone.links calls

abbrev pub IsGroupFor : View Value → Group → Type 0
IsGroupFor alone group = AreCallsFor alone group.calls.items

abbrev pub AreGroupsFor : View Value → Calls → Type 0
AreGroupsFor alone calls = All (IsGroupFor alone) calls.groups.items

abbrev pub IsWhole : Script → Type 0
IsWhole script = AreGroupsFor script.alone script.calls

abbrev pub IsReady : Parser → Type 0
IsReady parser = let alone = parser.reader.alone in All (IsGroupFor alone) parser.groups.items × AreCallsFor alone parser.calls.items

abbrev pub IsNew : View Value → Type 0
IsNew alone = (alone.seen ≡ []) × (alone.state ≡ new alone.size alone.links)
