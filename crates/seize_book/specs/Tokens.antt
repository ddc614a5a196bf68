-- What the tokens of a book own. None of them has bytes.
--     Name          a book: the number of its invariant, its names, where its blocks and heads lie, and the opening of its list
--     has_family    the book's family is the number by which labels say that something is of it: it stands for this name alone, for good;
--                   free_family   for none yet
--     label_at n k  the label of what is of the book and has the number k
--     chunk_label n k c   that of a chunk of the book's store with the home k and the cell c
--     inside        what stands in its invariant;  knows   that there is this invariant, for good
--     pass_owns     a pass within a walk, with its ticket in hand: its key, a beginning of the list that it has seen, and where it alone
--                   may append the list itself
--     lent_pass n κ p seen     a pass: the same, with its ticket lent to it for κ;  sized_pass    and its size is one that the book had
--     pass_adds, adder_owns    what it needs to add an event: its ticket in hand, and that its size is such a one
--     porter_owns   a porter: the key of the first pass, a beginning of the list that it has seen, and all tickets but those of so many
--                   passes; or, where it is at home, the copy of the whole list, which is what it has seen
--     IsSole p      pass p alone may append, for as long as it lasts: it is the first one, which nobody has while the gate is open
--     lies_in n v   the value's number leads to the label of its home and cell, in the store where the book's blocks lie
--     leads n v     and the code of what is lent with it is one that may be lent
--     note_at v g   the token of the cell where the holder of the value's key makes notes, in which g is noted.  notes_own    those of some
--                   keys
--     all_lead n vs     so it is with all these values
--     lies n s      the entry of slot s, in the table where the heads of the book lie, has the slot's label for good
--     all_lie n m   so do those of the first m slots, in their order;  slot_labels n m   their labels
--     places_known n st    both, of all that were ever named and of all slots that there are; and with each that was named something is
--                          lent
--     is_placed h   it is the key of a slot whose head lies in the table, as the label 1 says
--     rights_own    the rights to some keys, in a given order;  keys_own   and with each key of a block, where its value's number leads,
--                   what is lent with the value, and what is noted; and with that of a slot whose head lies in the table, that it does
--     key_without_note_owns   a key of a block without what is noted
--     AddsEntry     one entry was appended with a pass
use Rattle.std.specs.Prelude.{◌≡◌, ℕ, zero, suc, ◌+◌, Bool, true, false, ◌&&◌, ◌==◌, List, [], ◌∷◌, ◌++◌, length, map, Option, slice_index_or}
use Rattle.std.specs.List.{range_with_len}
use Rattle.std.specs.Coded.{Coded, code_by, coded_ℕ, coded×, coded_list, coded_option}
use mathlib.Core.Path.{refl}
use mathlib.Core.List.{IsPrefix}
use base.Fraction.{full_share}
use base.Share.{quarter, three_quarters}
use base.Growing.{latest}
use base.Stored.{Gv, gnil, gcons}
use base.Fml.{Lft, Fml, ffalse, ftrue, fsep, fex, fbor, fdead, fnamed, fobs, fauth, fres}
use types.Keyed.{ticket, tickets_from}
use denote.Struct.Codes.{itself}
use Rattle.seize_content.specs.Cells.{cell_token}
use Rattle.seize_machine.specs.Machine.State.{State, opening, linked_values, are_distinct}
use Rattle.seize_machine.specs.declared.machine.event.Answer.{Answer}
use Rattle.seize_store.specs.RowTokens.{tells}
use Rattle.seize_table.specs.Filled.{all_filled, filled_at}
use Rattle.seize_table.specs.Pairs.{pair}
use Rattle.seize_book.specs.Ledger.{HeldKey, fact, logs, right, rights, reached, contents}
use Rattle.seize_book.specs.Entry.{Entry, entry_coded}
use Rattle.seize_book.specs.Book.{IsLegalList, Does, after, mine, blocks, passes, slots, rules}
use Rattle.seize_book.specs.Blocks.{block_number, plans}
use Rattle.seize_book.specs.Bounds.{bounded, had_size}
use Rattle.seize_book.specs.Chains.{HasChains, field_value}
use Rattle.seize_book.specs.Homes.{IsSound, home_of}
use Rattle.seize_book.specs.Laws.{ended_lives}
use Rattle.seize_book.specs.Loans.{AllCarryOne, cell_of, loan, loan_of, place_of}
use Rattle.seize_book.specs.Pairs.{all_covered, pairs_in}
use Rattle.seize_book.specs.Permits.{permit_if}

-- Who may append: at the open gate each pass that the porter lent, at the shut gate the first pass alone, and at home none. The copy of
-- the list by which the first pass is alone has one name, and the tickets that the others are given have another. What is added is within
-- the greatest size that there was, which has a third.
pub record Gate : Type 0 where
  pub copy : ℕ
  pub tickets : ℕ
  pub sizes : ℕ

abbrev pub IsSole : ℕ → Type 0
IsSole p = p ≡ 0

pub record Name : Type 0 where
  pub number : ℕ
  pub log : ℕ
  pub family : ℕ
  -- the names of the keys, by kind
  pub pass_keys : ℕ
  pub number_keys : ℕ
  pub slot_keys : ℕ
  pub head_keys : ℕ
  pub link_keys : ℕ
  pub count_keys : ℕ
  pub block_keys : ℕ
  pub field_keys : ℕ
  pub total_keys : ℕ
  pub gate : Gate
  -- the store where the blocks lie, whose numbers words hold
  pub store : List ℕ
  -- the table where the heads of its slots lie
  pub table : List ℕ
  -- the list of the codes that may be lent with its values
  pub permits : ℕ
  -- and that of the pairs, before and after, that its links may go through
  pub pairs : ℕ
  -- the opening
  pub slots : ℕ
  pub links : List (Option ℕ)

abbrev nth : List ℕ → ℕ → ℕ
nth xs i = slice_index_or xs i 0

abbrev pub rows : Name → List ℕ
rows n =
    n.pass_keys ∷ n.number_keys ∷ n.slot_keys ∷ n.head_keys ∷ n.link_keys ∷ n.count_keys ∷ n.block_keys ∷ n.field_keys ∷ n.total_keys ∷ []

abbrev pub name_coded : Coded Name
name_coded =
    code_by (List ℕ × (List (Option ℕ) × (List ℕ × List ℕ)))
    (coded× (coded_list coded_ℕ) (coded× (coded_list (coded_option coded_ℕ)) (coded× (coded_list coded_ℕ) (coded_list coded_ℕ))))
    (λ n. (
      n.number ∷ n.log ∷ n.family ∷ n.slots ∷ n.gate.copy ∷ n.gate.tickets ∷ n.permits ∷ n.pairs ∷ n.gate.sizes ∷ rows n,
      (n.links, (n.store, n.table)),
    ))
    (λ t. record {
      number = nth t.0 0;
      log = nth t.0 1;
      family = nth t.0 2;
      slots = nth t.0 3;
      gate = record { copy = nth t.0 4; tickets = nth t.0 5; sizes = nth t.0 8 };
      permits = nth t.0 6;
      pairs = nth t.0 7;
      pass_keys = nth t.0 9;
      number_keys = nth t.0 10;
      slot_keys = nth t.0 11;
      head_keys = nth t.0 12;
      link_keys = nth t.0 13;
      count_keys = nth t.0 14;
      block_keys = nth t.0 15;
      field_keys = nth t.0 16;
      total_keys = nth t.0 17;
      links = t.1.0;
      store = t.1.1.0;
      table = t.1.1.1;
    })
    (λ _. refl)

abbrev pub start : Name → State
start n = opening n.slots n.links

abbrev pub free_family : ℕ → Fml
free_family family = fsep (fobs family gnil) (fauth family gnil)

abbrev pub has_family : Name → Fml
has_family n = fres n.family (gcons gnil (name_coded.code n))

abbrev pub label_at : Name → ℕ → ℕ
label_at n k = pair n.family k

abbrev pub chunk_label : Name → ℕ → ℕ → ℕ
chunk_label n k c = label_at n (pair k c)

-- these lifetimes are over
abbrev pub over : List ℕ → Fml
over [] = ftrue
over (a ∷ lives) = fsep (fdead (a ∷ [])) (over lives)

-- each pass that was lent has a ticket, which it can't be without
abbrev pub tickets : ℕ → List ℕ → Fml
tickets κ [] = ftrue
tickets κ (k ∷ ks) = fsep (ticket κ k) (tickets κ ks)

abbrev pub one_out : ℕ → Fml
one_out κ = fex ℕ (ticket κ)

-- all tickets but those of so many that are out: those that were never given, and those that came back
abbrev pub left_of_all : ℕ → ℕ → ℕ × List ℕ → Fml
left_of_all κ out t = fsep (tickets κ t.1) (fsep (tickets_from κ t.0) (fact (length t.1 + out ≡ t.0)))

abbrev pub all_but : ℕ → ℕ → Fml
all_but κ out = fex (ℕ × List ℕ) (left_of_all κ out)

-- the book's share of the copy of the list, and all tickets, while none is out and the gate is shut; or the whole copy
abbrev pub gate_share : Gate → List Entry → Bool → Fml
gate_share g log true = fsep (latest (logs entry_coded) quarter g.copy log) (all_but g.tickets 0)
gate_share g log false = latest (logs entry_coded) full_share g.copy log

abbrev pub gate_stands : Gate → List Entry → Fml
gate_stands g log = fex Bool (gate_share g log)

abbrev pub gate_keeps : Gate → List Entry → Fml
gate_keeps g log = fsep (bounded g.sizes log) (gate_stands g log)

abbrev pub gate_gives : Gate → ℕ → List Entry → Fml
gate_gives g zero seen = latest (logs entry_coded) three_quarters g.copy seen
gate_gives g (suc p) seen = one_out g.tickets

-- of these a ticket is lent
abbrev pub gate_lends : Gate → Lft → ℕ → List Entry → Fml
gate_lends g κ zero seen = latest (logs entry_coded) three_quarters g.copy seen
gate_lends g κ (suc p) seen = fbor κ (one_out g.tickets)

-- what a porter has: while so many passes are out, the other tickets; or, at home, what the first pass has, and no pass is out
abbrev pub gate_leaves : Gate → Bool → ℕ → List Entry → Fml
gate_leaves g true out seen = fsep (latest (logs entry_coded) three_quarters g.copy seen) (fact (out ≡ 0))
gate_leaves g false out seen = all_but g.tickets out

-- a number leads to one label and one content for good, since a chunk of a store keeps its header and its content
-- what the chunk of a value's block says
abbrev pub chunk_tag : Name → ℕ → ℕ × ℕ
chunk_tag n v = (chunk_label n (home_of v) (cell_of v), place_of v)

abbrev pub lies_in : Name → ℕ → Fml
lies_in n v = tells n.store (block_number v) (chunk_tag n v)

abbrev pub leads : Name → ℕ → Fml
leads n v = fsep (lies_in n v) (permit_if n.permits (loan_of v))

abbrev pub all_lead : Name → List ℕ → Fml
all_lead n [] = ftrue
all_lead n (v ∷ vs) = fsep (leads n v) (all_lead n vs)

-- an entry of a table has one label for good, since it is filled once
abbrev pub lies : Name → ℕ → Fml
lies n s = filled_at n.table s (label_at n s)

abbrev pub slot_labels : Name → ℕ → List ℕ
slot_labels n m = map (label_at n) (range_with_len 0 m)

abbrev pub all_lie : Name → ℕ → Fml
all_lie n m = all_filled n.table (slot_labels n m)

abbrev pub places_known : Name → State → Fml
places_known n st = fsep (all_lead n st.named) (fsep (all_lie n (length st.slots)) (fact (AllCarryOne st.named)))

-- each activation that has ended is over, and there is a permit for each pair that the list made
abbrev pub past : Name → List Entry → Fml
past n log = fsep (over (ended_lives log)) (all_covered n.pairs (pairs_in (start n) log))

-- what the invariant holds beside the list and the keys: what is past; the gate; and where all is found that was ever named or made
abbrev pub beside : Name → List Entry → Fml
beside n log = fsep (past n log) (fsep (gate_keeps n.gate log) (places_known n (after (start n) log)))

abbrev pub inside : Name → Fml
inside n = contents entry_coded (rules (start n)) (beside n) n.log (rows n)

-- it lasts for good, and may be had twice; and the links of the opening are distinct
abbrev pub knows : Name → Fml
knows n = fsep (fnamed n.number (inside n)) (fsep (has_family n) (fact (are_distinct (linked_values n.links) ≡ true)))

abbrev pub key : Name → ℕ → ℕ → List Entry → Fml
key n r k own = right entry_coded (rows n) r k own

-- what was last made with the pass, when the list was `own`, and nothing since then
abbrev pub stands : Name → ℕ → List Entry → Fml → List Entry → Fml
stands n p seen gate own =
    fsep (key n passes p own)
    (fsep (reached entry_coded n.log seen) (fsep gate (fact (IsPrefix own seen × (mine (start n) p own ≡ mine (start n) p seen)))))

abbrev pub pass_at : Name → ℕ → List Entry → List Entry → Fml
pass_at n p seen own = stands n p seen (gate_gives n.gate p seen) own

abbrev pub pass_holds : Name → ℕ → List Entry → Fml
pass_holds n p seen = fex (List Entry) (pass_at n p seen)

abbrev pub pass_owns : Name → ℕ → List Entry → Fml
pass_owns n p seen = fsep (knows n) (pass_holds n p seen)

abbrev pub lent_at : Name → Lft → ℕ → List Entry → List Entry → Fml
lent_at n κ p seen own = stands n p seen (gate_lends n.gate κ p seen) own

abbrev pub lent_pass : Name → Lft → ℕ → List Entry → Fml
lent_pass n κ p seen = fsep (knows n) (fex (List Entry) (lent_at n κ p seen))

-- and its size is one that the book had
abbrev pub sized_pass : Name → Lft → ℕ → ℕ → List Entry → Fml
sized_pass n κ p size seen = fsep (had_size n.gate.sizes size) (lent_pass n κ p seen)

-- what it needs to add an event: so it is, with its ticket in hand
abbrev pub pass_adds : Name → ℕ → ℕ → List Entry → Fml
pass_adds n p size seen = fsep (had_size n.gate.sizes size) (pass_holds n p seen)

abbrev pub adder_owns : Name → ℕ → ℕ → List Entry → Fml
adder_owns n p size seen = fsep (knows n) (pass_adds n p size seen)

-- it keeps the key of the first pass, which nobody has meanwhile
abbrev pub porter_at : Name → Bool → ℕ → List Entry → List Entry → Fml
porter_at n home out seen own = stands n 0 seen (gate_leaves n.gate home out seen) own

abbrev pub porter_owns : Name → Bool → ℕ → List Entry → Fml
porter_owns n home out seen = fsep (knows n) (fex (List Entry) (porter_at n home out seen))

abbrev pub rights_own : Name → List (HeldKey Entry) → Fml
rights_own n held = rights entry_coded (rows n) held

-- with the key of a block's values goes where the number leads of the value that it is labelled with, and what is lent with that
abbrev pub way_if : Bool → Name → ℕ → Fml
way_if true n v = fsep (leads n v) (loan (start n) n.log v)
way_if false n v = ftrue

-- and with that of a slot that is labelled 1 goes that its head lies in the table
abbrev pub is_placed : HeldKey Entry → Bool
is_placed h = (h.kind == slots) && (h.label == 1)

abbrev pub lies_if : Bool → Name → ℕ → Fml
lies_if true n s = lies n s
lies_if false n s = ftrue

-- what its holder notes, in a cell of its chunk
abbrev pub note_at : ℕ → Gv → Fml
note_at v g = cell_token (cell_of v) g

abbrev pub note_if : Bool → ℕ → Gv → Fml
note_if true v g = note_at v g
note_if false v g = ftrue

abbrev pub key_note : HeldKey Entry → Fml
key_note h = note_if (h.kind == blocks) h.label h.note

abbrev pub notes_own : List (HeldKey Entry) → Fml
notes_own [] = ftrue
notes_own (h ∷ held) = fsep (key_note h) (notes_own held)

abbrev pub way : Name → HeldKey Entry → Fml
way n h = fsep (way_if (h.kind == blocks) n h.label) (fsep (lies_if (is_placed h) n h.key) (key_note h))

abbrev pub one_key : Name → HeldKey Entry → Fml
one_key n h = fsep (key n h.kind h.key h.own) (way n h)

abbrev pub keys_own : Name → List (HeldKey Entry) → Fml
keys_own n [] = ftrue
keys_own n (h ∷ held) = fsep (one_key n h) (keys_own n held)

-- the key of a block, but for the note
abbrev pub key_without_note_owns : Name → List (HeldKey Entry) → Fml
key_without_note_owns n [] = ftrue
key_without_note_owns n (h ∷ []) = fsep (key n h.kind h.key h.own) (fsep (leads n h.label) (loan (start n) n.log h.label))
key_without_note_owns n (h ∷ g ∷ held) = ffalse

abbrev pub held_coded : Coded (HeldKey Entry)
held_coded =
    code_by (ℕ × (ℕ × (ℕ × (Gv × List Entry)))) (coded× coded_ℕ (coded× coded_ℕ (coded× coded_ℕ (coded× itself (coded_list entry_coded)))))
    (λ h. (h.kind, (h.key, (h.label, (h.note, h.own)))))
    (λ t. record { kind = t.0; key = t.1.0; label = t.1.1.0; note = t.1.1.1.0; own = t.1.1.1.1 }) (λ _. refl)

-- Entry e was added with pass p. It took the machine to this state, with this answer, and this state is where all that the pass has seen
-- leads. Nothing had been made with the pass since it had seen its beginning, and where it is alone nothing at all had been added. With
-- each value that was named something is lent. The links of the book's opening are distinct, so
-- that the laws hold of its list.
pub record AddsEntry (n : Name) (p : ℕ) (seen seen' : List Entry) (e : Entry) : Type 0 where
  pub before : List Entry
  pub appended : seen' ≡ before ++ e ∷ []
  pub legal : IsLegalList (start n) seen'
  pub sound : IsSound (after (start n) seen')
  pub chained : HasChains (after (start n) seen') (plans (start n) seen') (field_value seen')
  pub grows : IsPrefix seen before
  pub later : State
  pub answer : Answer
  pub does : Does (start n) before e (later, answer)
  pub leads : after (start n) seen' ≡ later
  pub made : mine (start n) p seen' ≡ mine (start n) p seen ++ (e, answer) ∷ []
  pub alone : IsSole p → before ≡ seen
  pub lent : AllCarryOne later.named
  pub distinct : are_distinct (linked_values n.links) ≡ true
