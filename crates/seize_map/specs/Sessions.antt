-- What contracts see of the handles and sessions of a map.
--     handle_map handle, handle_slot handle     its map, and its slot's number
--     ByNewPass collector Made     this was made by a new pass of the collector, from the first state of that to the second
--     session_map s, session_slot s, session_pass s     the map of a session, its slot's number, and its pass
--     IsSameSession s s'        it has the map and the slot that it had
use Rattle.std.specs.Prelude.{◌≡◌, ℕ}
use Rattle.core.specs.declared.cmp.PartialEq as eq
use Rattle.core.specs.declared.hash.Hash as hash
use Rattle.core.specs.declared.hash.Hasher as hasher
use Rattle.core.specs.declared.hash.build.BuildHasher as builder
use Rattle.seize.specs.Collectors.{IsNewPassOf}
use Rattle.seize.specs.Guards.{guard_slot}
use Rattle.seize.specs.Registrations.{registered_slot}
use Rattle.seize.specs.declared.collector.Collector.{Collector}
use Rattle.seize_book.specs.declared.book.pass.Pass.{Pass}
use Rattle.seize_guards.specs.declared.parts.Home as home
use Rattle.seize_map.specs.declared.bucket.Bucket.{Bucket}
use Rattle.seize_map.specs.declared.map.HashMap.{HashMap}
use Rattle.seize_map.specs.declared.session.Handle.{Handle}
use Rattle.seize_map.specs.declared.session.Session.{Session}

abbrev pub ByNewPass : {T R : Type 0} → Collector T R → (Pass → Pass → Type 0) → Type 0
ByNewPass collector Made = (pass : Pass) × (pass' : Pass) × IsNewPassOf collector pass × Made pass pass'

module _ {K V S R C H : Type 0} {k : hash.Ghosts K} {e : eq.Ghosts K} {b : builder.Ghosts S H} {h : hasher.Ghosts H}
    {c : home.Ghosts C (Bucket K V)} where
  abbrev pub handle_map : Handle K V S R C H k e b h c → HashMap K V S C H k e b h c
  handle_map handle = handle.map.now

  abbrev pub handle_slot : Handle K V S R C H k e b h c → ℕ
  handle_slot handle = registered_slot handle.registration

  abbrev pub session_map : Session K V S R C H k e b h c → HashMap K V S C H k e b h c
  session_map session = session.map.now

  abbrev pub session_slot : Session K V S R C H k e b h c → ℕ
  session_slot session = guard_slot session.guard

  abbrev pub session_pass : Session K V S R C H k e b h c → Pass
  session_pass session = session.pass

  abbrev pub IsSameSession : Session K V S R C H k e b h c → Session K V S R C H k e b h c → Type 0
  IsSameSession session session' =
      (session_map session' ≡ session_map session) × (session_slot session' ≡ session_slot session)
