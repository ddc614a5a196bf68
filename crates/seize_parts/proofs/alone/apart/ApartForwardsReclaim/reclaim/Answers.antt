use Rattle.std.proofs.Common.{◌≡◌, List, [], ◌∷◌, ◌++◌, refl, sym, ap, ◌∙◌, arith}
use Rattle.seize_book.specs.Entry.{Entry}
use Rattle.seize_book.specs.Kept.{kepts_in}
use Rattle.seize_book.specs.Ledger.{HeldKey}
use Rattle.seize_book.specs.Private.{labels_of}
use Rattle.seize_calls.proofs.Chains.{no_keys}
use Rattle.seize_calls.specs.Aparts.{without_puts}
use Rattle.seize_parts.proofs.Behind.{behind_more, without_append}
use Rattle.seize_parts.proofs.Watched.{told_more}
use Rattle.seize_parts.proofs.alone.apart.ApartForwardsReclaim.reclaim.Goals as goal

pub append-requires : goal.append-requires
append-requires g c = (omega arith, (c.requires.serves.3.served.0, c.reclaim.ensures.further.0))

pub returns-clause-had : goal.returns-clause-had
returns-clause-had g c =
    let before = c.args.self.now.forwards.ends.had in let empty : [] ≡ c.append.new.other.values.keys.held = sym (no_keys c.append.new.other.values.keys.held c.append.ensures.emptied.1) in
    ap without_puts c.reclaim.ensures.had ∙ without_append before _
    ∙ ap (λ (held : List (HeldKey Entry)). without_puts before ++ (c.args.kept, g.row.T.coded.code c.args.value, labels_of held, kepts_in held) ∷ []) empty

pub returns-clause-serves : goal.returns-clause-serves
returns-clause-serves g c =
    let before = c.requires.serves in let reclaim = c.reclaim.ensures in let W = g.W.Watch in let B = g.B.Waited in let append = c.append.ensures in (
      reclaim.serves.0,
      reclaim.serves.1,
      told_more W.coded g.row.T.coded.code W.told B.first (W.seen c.args.self.now.aside.now.watch.now) (W.seen c.gone.new.self) _ _ c.args.value _ before.2 c.gone.ensures refl reclaim.had,
      behind_more _ B.values B.words _ _ _ _ _ before.3 reclaim.had (append.joins.book ∙ before.3.served.0, (append.new before.3.served.1 reclaim.further.1).0) append.joins.all append.joins.kept,
      before.4,
      before.5,
    )
