use Rattle.lit_paths.proofs.combination.Combination.new.Goals as goal

pub invariant_of-result : goal.invariant_of-result
invariant_of-result c =
    record { limits = c.requires.limits; known = c.requires.known; formed = c.form.ensures; before = c.requires.first; few = c.requires.few }
