mod StarSets
