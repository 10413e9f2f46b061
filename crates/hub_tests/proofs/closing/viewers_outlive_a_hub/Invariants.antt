use Rattle.hub_tests.proofs.closing.viewers_outlive_a_hub.Given as goal

abbrev pub ghosts-outlive-J-HubName : goal.ghosts-outlive-J-HubName
ghosts-outlive-J-HubName g a = record { origin = a.parts.origin; book = a.parts.book }

abbrev pub ghosts-outlive-L-Ledger : goal.ghosts-outlive-L-Ledger
ghosts-outlive-L-Ledger g a = record { name = a.parts.first_name; parts = a.parts.first_parts }

abbrev pub ghosts-outlive-M-Ledger : goal.ghosts-outlive-M-Ledger
ghosts-outlive-M-Ledger g a = record { name = a.parts.second_name; parts = a.parts.second_parts }
