-- `wharfgrain::main` meets its contract. Assumes nothing.
use Rattle.wharfgrain.proofs.Buffers.{answer_within, answer_part}
use Rattle.wharfgrain.proofs.main.Goals as goal

pub slice_bounds-answer-end : goal.slice_bounds-answer-end
slice_bounds-answer-end c = search answer_within

pub slice_bounds-write_all-end : goal.slice_bounds-write_all-end
slice_bounds-write_all-end c = search answer_part
