use Rattle.seize_table.proofs.tls.iter.IterIterator.next.Goals as goal

pub returns-clause-steps : goal.returns-clause-steps
returns-clause-steps g c =
    let seen = c.in_ok-_thread.ensures in
    (seen.table, seen.forward, seen.in_table, (c.in_ok-_thread._thread, (seen.place, seen.shown), seen.past), tt)
