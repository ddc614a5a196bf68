use Rattle.std.proofs.Common.{List, length, ◌≡◌, ℕ, suc, ◌+◌, ◌++◌, [], ◌∷◌, Option, None, slice_index_or, drop, Bool, true, if◌then◌else◌, sym, ap, ◌∙◌, arith}
use Rattle.std.specs.Result.{is_ok}
use Rattle.std.proofs.lemmas.List.{length_push, get_or-replicate, length-replicate}
use Rattle.seize_book.specs.Begin.{first_links}
use Rattle.seize_book.specs.Ledger.{HeldKey}
use Rattle.seize_words.specs.LinkRows.{IsLinkAt}
use Rattle.seize_words.specs.Stands.{IsSharedLink}
use Rattle.seize_book.specs.Private.{key_of}
use Rattle.seize_book.specs.Entry.{Entry}
use Rattle.seize_book.specs.Tokens.{Name}
use Rattle.seize_words.specs.declared.link.Link.{Link}
use Rattle.seize_words.proofs.LinkRows.{some_left, pushed}
use Rattle.seize_words.proofs.link.row.Links.row.Goals as goal

pub next-requires : goal.next-requires
next-requires c =
    let i = c.loop.invariant.2 in let some = some_left c.loop.counter i.0 c.args.many i.1 c.loop-test.true in (
      c.loop.counter,
      some.0,
      i.2 ∙ ap (λ (rest : ℕ). first_links c.loop.counter rest) some.1,
      ap (λ (n : Name). slice_index_or n.links c.loop.counter None) c.loop.invariant.0
          ∙ (ap (λ (all : List (Option ℕ)). slice_index_or all c.loop.counter None) c.requires.left.2 ∙ get_or-replicate c.args.many c.loop.counter Option.None Option.None c.loop-test.true),
    )

pub loop-preserved : goal.loop-preserved
loop-preserved c =
    let i = c.loop.invariant.2 in let some = some_left c.loop.counter i.0 c.args.many i.1 c.loop-test.true in let link = c.next.result in
    let held = i.2 ∙ ap (λ (rest : ℕ). first_links c.loop.counter rest) some.1 in let n = c.args.left.now.keys.name in
    let it : IsLinkAt n (length c.loop.row.items) link = (c.next.ensures.next.0 ∙ c.loop.invariant.0, c.next.ensures.next.1 ∙ (ap key_of held ∙ sym c.loop.invariant.1.0)) in
    let ok : is_ok c.push.result ≡ true = sym c.in_ok-map_err.ensures.variant in
    let items = c.push.ensures.items ∙ ap (λ (b : Bool). if b then c.loop.row.items ++ link ∷ [] else c.loop.row.items) ok in
    let all = pushed (λ k l. IsLinkAt n k l × IsSharedLink l) c.loop.row.items link c.loop.invariant.1.1 (it, c.next.ensures.shared) c.push.new.self.items items in (
      c.next.ensures.next.2 ∙ c.loop.invariant.0,
      (ap (λ (l : List Link). length l) items ∙ length_push c.loop.row.items link ∙ ap (λ (k : ℕ). k + 1) c.loop.invariant.1.0, all),
      (some.0, (let e = some.1 in let f = i.1 in omega arith), c.next.ensures.next.3 ∙ ap (λ (held : List (HeldKey Entry)). drop 1 held) held ∙ ap (λ (k : ℕ). first_links k some.0) (let e : suc c.loop.counter ≡ c.loop.counter + 1 = omega arith in e)),
    )

pub returns-clause-made : goal.returns-clause-made
returns-clause-made c =
    let i = c.loop.invariant in let all = i.1.1 in let end = i.2 in
    ((i.1.0 ∙ (let e : c.loop.counter ≡ c.args.many = (let f = end.1 in let over = c.loop-test.false in omega (arith, f, over)) in e) ∙ sym (ap (λ (all : List (Option ℕ)). length all) c.requires.left.2 ∙ length-replicate c.args.many Option.None), λ l d less. (all l d less).0), λ l d less. (all l d less).1)
