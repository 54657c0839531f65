mod Counts
