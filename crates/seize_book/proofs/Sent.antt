-- What the tokens own may go to another thread.
use Rattle.std.proofs.Common.{ℕ, zero, suc, Bool, true, false, ◌==◌, List, [], ◌∷◌, length}
use base.Growing.{latest, at_least}
use base.Stored.{Gv}
use base.Fml.{Lft, Share, fsep}
use base.SetCodes.{coded_share}
use base.Shift.{Keyless}
use types.Keyed.{entry_keyless, entries_keyless, token}
use Rattle.core.proofs.atomic.Sent.{chain-Keyless}
use Rattle.seize_table.specs.Filled.{all_from}
use Rattle.seize_book.specs.Ledger.{HeldKey, halved, roster, rosters, first_row, rest}
use Rattle.seize_book.specs.Entry.{Entry, entry_coded}
use Rattle.seize_book.specs.Book.{after, blocks}
use Rattle.seize_book.specs.Bounds.{had_size, sets_size, size_lent}
use Rattle.seize_content.specs.Stages.{lent}
use Rattle.seize_content.proofs.Sends.{ticket_sent, token_sent, lent_sent, sight_sent}
use Rattle.seize_machine.specs.Machine.State.{State}
use Rattle.seize_book.specs.Laws.{ended_lives}
use Rattle.seize_book.specs.Loans.{cell_of, loan_if, loan_of, readers}
use Rattle.seize_book.specs.Peeks.{keys_show, show_if, sight_if}
use Rattle.seize_book.specs.Pairs.{Pair, all_covered, pair_number, pairs_in}
use Rattle.seize_book.specs.Permits.{all_permitted, knows_permits, permit_if}
use Rattle.seize_book.specs.Shared.{period, porter_has, porter_shares, row_has, rows_have, side}
use Rattle.seize_book.specs.Tokens.{Gate, Name, all_but, all_lead, gate_gives, gate_leaves, gate_lends, gate_share, inside, is_placed, keys_own, knows, lent_pass, lies_if, note_if, notes_own, over, porter_owns, rights_own, rows, sized_pass, slot_labels, start, tickets, way_if}
use Rattle.seize_book.specs.Begin.{book_owns}

roster_keyless : (δ k : ℕ) (owns : List (List Entry)) → Keyless (roster entry_coded δ k owns)
roster_keyless δ k [] = entries_keyless (halved entry_coded) δ k _
roster_keyless δ k (o ∷ owns) = (entry_keyless (halved entry_coded) δ k _, roster_keyless δ (suc k) owns)

rosters_keyless : (δs : List ℕ) (rows : List (List (List Entry))) → Keyless (rosters entry_coded δs rows)
rosters_keyless [] rows = tt
rosters_keyless (δ ∷ δs) rows = (roster_keyless δ 0 (first_row rows), rosters_keyless δs (rest rows))

pub over_keyless : (lives : List ℕ) → Keyless (over lives)
over_keyless [] = tt
over_keyless (a ∷ lives) = (tt, over_keyless lives)

tickets_keyless : (κ : ℕ) (ks : List ℕ) → Keyless (tickets κ ks)
tickets_keyless κ [] = tt
tickets_keyless κ (k ∷ ks) = (entry_keyless token κ k tt, tickets_keyless κ ks)

all_but_keyless : (κ out : ℕ) → Keyless (all_but κ out)
all_but_keyless κ out = λ t. (tickets_keyless κ t.1, (entries_keyless token κ t.0 _, λ _. tt))

turned_keyless : (g : Gate) (log : List Entry) (b : Bool) → Keyless (gate_share g log b)
unfolding latest
turned_keyless g log true = (tt, all_but_keyless g.tickets 0)
turned_keyless g log false = tt

gives_keyless : (g : Gate) (p : ℕ) (seen : List Entry) → Keyless (gate_gives g p seen)
unfolding latest
gives_keyless g zero seen = tt
gives_keyless g (suc p) seen = λ k. entry_keyless token g.tickets k tt

leaves_keyless : (g : Gate) (home : Bool) (out : ℕ) (seen : List Entry) → Keyless (gate_leaves g home out seen)
unfolding latest
leaves_keyless g true out seen = (tt, λ _. tt)
leaves_keyless g false out seen = all_but_keyless g.tickets out

permit_keyless : (γ l : ℕ) → Keyless (permit_if γ l)
unfolding at_least
permit_keyless γ zero = tt
permit_keyless γ (suc l) = λ ks. (tt, λ _. tt)

pub list_keyless : (holds : Gv → Type 0) (γ : ℕ) → Keyless (knows_permits holds γ)
unfolding latest
list_keyless holds γ = λ j ks. (tt, λ _. tt)

pub permits_keyless : (γ : ℕ) (ks : List ℕ) → Keyless (all_permitted γ ks)
permits_keyless γ [] = tt
permits_keyless γ (k ∷ ks) = (permit_keyless γ k, permits_keyless γ ks)

covered_keyless : (γ : ℕ) (ts : List Pair) → Keyless (all_covered γ ts)
covered_keyless γ [] = tt
covered_keyless γ (t ∷ ts) = ((λ w. ((λ _. tt), permit_keyless γ (pair_number t.link w t.next))), covered_keyless γ ts)

leads_keyless : (n : Name) (vs : List ℕ) → Keyless (all_lead n vs)
leads_keyless n [] = tt
leads_keyless n (v ∷ vs) = (((λ way. tt), permit_keyless n.permits (loan_of v)), leads_keyless n vs)

readers_keyless : (st : State) (η v : ℕ) (ds : List (Lft × ℕ)) → Keyless (readers st η v ds)
unfolding at_least
readers_keyless st η v [] = tt
readers_keyless st η v (d ∷ ds) = ((λ t. ((λ _. tt), tt)), readers_keyless st η v ds)

loan_keyless : (k : ℕ) (st : State) (η v : ℕ) → Keyless (loan_if k st η v)
loan_keyless zero st η v = tt
loan_keyless (suc k) st η v = λ l. ((λ _. tt), (ticket_sent l.content (lent l.life l.code), (lent_sent l.content l.life l.code l.readers, readers_keyless st η v l.readers)))

way_keyless : (b : Bool) (n : Name) (v : ℕ) → Keyless (way_if b n v)
way_keyless true n v = (((λ way. tt), permit_keyless n.permits (loan_of v)), loan_keyless (loan_of v) (start n) n.log v)
way_keyless false n v = tt

filled_keyless : (table : List ℕ) (from : ℕ) (labels : List ℕ) → Keyless (all_from table from labels)
filled_keyless table from [] = tt
filled_keyless table from (label ∷ labels) = ((λ way. (tt, tt)), filled_keyless table (suc from) labels)

lies_if_keyless : (b : Bool) (n : Name) (s : ℕ) → Keyless (lies_if b n s)
lies_if_keyless true n s = λ way. (tt, tt)
lies_if_keyless false n s = tt

inside_keyless : (n : Name) → Keyless (inside n)
unfolding latest
inside_keyless n = λ s. (rosters_keyless (rows n) s.0, (tt, (((over_keyless (ended_lives s.1), covered_keyless n.pairs (pairs_in (start n) s.1)), (((λ m. (tt, λ _. tt)), λ b. turned_keyless n.gate s.1 b), (leads_keyless n (after (start n) s.1).named, (filled_keyless n.table 0 (slot_labels n (length (after (start n) s.1).slots)), λ _. tt)))), (λ _. tt))))

pub book_keyless : (n : Name) (seen : List Entry) → Keyless (book_owns n seen)
unfolding at_least
book_keyless n seen = ((inside_keyless n, (tt, λ _. tt)), tt)

knows_keyless : (n : Name) → Keyless (knows n)
knows_keyless n = (inside_keyless n, (tt, λ _. tt))

pub porter_keyless : (n : Name) (home : Bool) (out : ℕ) (seen : List Entry) → Keyless (porter_owns n home out seen)
unfolding at_least
porter_keyless n home out seen = ((inside_keyless n, (tt, λ _. tt)), λ own. (entry_keyless (halved entry_coded) _ 0 _, (tt, (leaves_keyless n.gate home out seen, λ _. tt))))

lends_keyless : (g : Gate) (κ : Lft) (p : ℕ) (seen : List Entry) → Keyless (gate_lends g κ p seen)
unfolding latest
lends_keyless g κ zero seen = gives_keyless g zero seen
lends_keyless g κ (suc p) seen = gives_keyless g 1 []

pub lent_keyless : (n : Name) (κ : Lft) (p : ℕ) (seen : List Entry) → Keyless (lent_pass n κ p seen)
unfolding at_least
lent_keyless n κ p seen = (knows_keyless n, λ own. (entry_keyless (halved entry_coded) _ p _, (tt, (lends_keyless n.gate κ p seen, λ _. tt))))

row_keys_keyless : (δ k : ℕ) (rows : List (List Share)) → Keyless (roster coded_share δ k rows)
row_keys_keyless δ k [] = entries_keyless (halved coded_share) δ k _
row_keys_keyless δ k (rs ∷ rows) = (entry_keyless (halved coded_share) δ k _, row_keys_keyless δ (suc k) rows)

module _ (n : Name) (seen : List Entry) where
  row_keyless : (μ : Lft) (rs : List Share) → Keyless (row_has n seen μ rs)
  row_keyless μ [] = gives_keyless n.gate 1 []
  row_keyless μ (r ∷ rs) = tt

  rows_keyless : (μ : Lft) (rows : List (List Share)) → Keyless (rows_have n seen μ rows)
  rows_keyless μ [] = tt
  rows_keyless μ (rs ∷ rows) = (row_keyless μ rs, rows_keyless μ rows)

  side_keyless : (μ : Lft) (all : List (List Share)) → Keyless (side n seen μ all)
  side_keyless μ [] = tt
  side_keyless μ ([] ∷ rows) = (rows_keyless μ rows, porter_keyless n false _ seen)
  side_keyless μ ((r ∷ rs) ∷ rows) = tt

  period_keyless : (μ : Lft) (δ : ℕ) → Keyless (period n seen μ δ)
  period_keyless μ δ = λ all. (row_keys_keyless δ 0 all, side_keyless μ all)

pub sized_keyless : (n : Name) (κ : Lft) (p size : ℕ) (seen : List Entry) → Keyless (sized_pass n κ p size seen)
unfolding at_least
sized_keyless n κ p size seen = (tt, lent_keyless n κ p seen)

-- and so may what a porter has, and what is shared of it
porter_sent : (n : Name) (home : Bool) (seen : List Entry) → Keyless (porter_has n home seen)
unfolding at_least
porter_sent n true seen = porter_keyless n true 0 seen
porter_sent n false seen = λ t. (period_keyless n seen _ t.1.1, (entry_keyless (halved coded_share) _ 0 _, (tt, (knows_keyless n, tt))))

porter_shown : (n : Name) (home : Bool) (seen : List Entry) (κ : Lft) → Keyless (porter_shares n home seen κ)
unfolding at_least
porter_shown n true seen κ = tt
porter_shown n false seen κ = λ t. ((λ νs. chain-Keyless νs κ _), (period_keyless n seen _ t.1.1, (knows_keyless n, tt)))

pub porter_all_sent : (n : Name) (size : ℕ) (home : Bool) (seen : List Entry) → Keyless (fsep (had_size n.gate.sizes size) (porter_has n home seen))
unfolding at_least
porter_all_sent n size home seen = (tt, porter_sent n home seen)

pub porter_all_shown : (n : Name) (size : ℕ) (home : Bool) (seen : List Entry) (κ : Lft) → Keyless (fsep (had_size n.gate.sizes size) (porter_shares n home seen κ))
unfolding at_least
porter_all_shown n size home seen κ = (tt, porter_shown n home seen κ)

-- and the right to set the size
pub sizes_sent : (γ m : ℕ) → Keyless (sets_size γ m)
unfolding latest
sizes_sent γ m = tt

pub sizes_shown : (γ m : ℕ) (κ : Lft) → Keyless (size_lent γ m κ)
unfolding latest
sizes_shown γ m κ = λ q. tt

note_keyless : (b : Bool) (v : ℕ) (g : Gv) → Keyless (note_if b v g)
note_keyless true v g = token_sent (cell_of v) g
note_keyless false v g = tt

pub notes_keyless : (held : List (HeldKey Entry)) → Keyless (notes_own held)
notes_keyless [] = tt
notes_keyless (h ∷ held) = (note_keyless (h.kind == blocks) h.label h.note, notes_keyless held)

pub keys_keyless : (n : Name) (held : List (HeldKey Entry)) → Keyless (keys_own n held)
keys_keyless n [] = tt
keys_keyless n (h ∷ held) = ((entry_keyless (halved entry_coded) _ h.key _, (way_keyless (h.kind == blocks) n h.label, (lies_if_keyless (is_placed h) n h.key, note_keyless (h.kind == blocks) h.label h.note))), keys_keyless n held)

-- and so does what is shown of them

pub sight_keyless : (k : ℕ) (κ : Lft) (v : ℕ) → Keyless (sight_if k κ v)
sight_keyless zero κ v = tt
sight_keyless (suc k) κ v = λ t. ((λ _. tt), sight_sent κ t.0 t.1.0 t.1.1)

show_keyless : (b : Bool) (n : Name) (v : ℕ) (κ : Lft) → Keyless (show_if b n v κ)
show_keyless true n v κ = (((λ way. tt), permit_keyless n.permits (loan_of v)), sight_keyless (loan_of v) κ v)
show_keyless false n v κ = tt

pub keys_shown : (n : Name) (held : List (HeldKey Entry)) (κ : Lft) → Keyless (keys_show n held κ)
keys_shown n [] κ = tt
keys_shown n (h ∷ held) κ = (show_keyless (h.kind == blocks) n h.label κ, keys_shown n held κ)

pub rights_keyless : (n : Name) (held : List (HeldKey Entry)) → Keyless (rights_own n held)
rights_keyless n [] = tt
rights_keyless n (h ∷ held) = (entry_keyless (halved entry_coded) _ h.key _, rights_keyless n held)
