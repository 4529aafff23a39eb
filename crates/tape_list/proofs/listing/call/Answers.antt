-- `tape_list::listing::call` meets its contract: a datagram of an accepted call lies inside of the tape. Assumes nothing.
use Rattle.std.proofs.Common.{◌+◌, ◌≤◌, length, arith}
use Rattle.tape_list.proofs.listing.call.Goals as goal

pub overflow_add-from : goal.overflow_add-from
overflow_add-from g c = let inside : c.in-Datagram.from + c.in-Datagram.len ≤ length c.args.tape.now = rw c.in-Datagram.is at c.requires in
    omega arith

pub slice_bounds-datagram-end : goal.slice_bounds-datagram-end
slice_bounds-datagram-end g c = rw c.in-Datagram.is at c.requires
