use Rattle.reference_model.proofs.values.+is_below_power.Given as goal

abbrev pub decreases-is_below_power : goal.decreases-is_below_power
decreases-is_below_power l = l.places
