-- `playback::stepping::step_as` meets its contract. Assumes nothing.
use mathlib.Core.Path.{refl}
use Rattle.std.proofs.Common.{rules}
use Rattle.playback.proofs.Written.{samples_done, values_done, line_b_written, line_i_written, line_c_written}
use Rattle.playback.proofs.stepping.step_as.Goals as goal

pub returns-in-Samples : goal.returns-in-Samples
returns-in-Samples c = let g = c.args in
    samples_done g.form g.tape.now g.w g.fs.now g.us.now g.samples.now g.text.now _ c.in-Samples.from c.in-Samples.end _ (λ k d is. search rules) c.in-Samples.is _ c.part_of.ensures

pub returns-in-Values : goal.returns-in-Values
returns-in-Values c = let g = c.args in
    values_done g.form g.tape.now g.w g.fs.now g.us.now g.samples.now g.text.now _ c.in-Values.from c.in-Values.end _ (λ k d is. search rules) c.in-Values.is _ c.part_of-in-Values.ensures

pub returns-in-LineB : goal.returns-in-LineB
returns-in-LineB c = let g = c.args in
    rw c.on.ensures (line_b_written g.form g.tape.now g.w g.fs.now g.us.now g.samples.now g.text.now _ _ c.in-LineB.is (record { put = rw c.report_of.ensures at c.put_sound.ensures; behind = refl }))

pub returns-in-LineI : goal.returns-in-LineI
returns-in-LineI c = let g = c.args in
    rw c.on-in-LineI.ensures (line_i_written g.form g.tape.now g.w g.fs.now g.us.now g.samples.now g.text.now _ _ c.in-LineI.is (record { put = rw c.report_of-in-LineI.ensures at c.put_incoming.ensures; behind = refl }))

pub returns-in-LineC : goal.returns-in-LineC
returns-in-LineC c = let g = c.args in
    rw c.on-in-LineC.ensures (line_c_written g.form g.tape.now g.w g.fs.now g.us.now g.samples.now g.text.now _ _ c.in-LineC.is (record { put = rw c.report_of-in-LineC.ensures at c.put_times.ensures; behind = refl }))
